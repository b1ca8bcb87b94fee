-- The words of each reason, and the lines that have them. Each line ends in LF (10). This page is
-- to be believed.
use Rattle.std.specs.Prelude.{ℕ, List, [], ◌∷◌, ◌++◌, codes, Option, Some, None}
use Rattle.std.specs.Fmt.{decimal}
use Rattle.std.specs.List.{flat_map}
use Rattle.cert_graph.specs.declared.reach.Reach.{Reach}
use Rattle.cert_graph.specs.declared.reach.Reach.TheVariants.{No, UpTo, Any}
use Rattle.cert_model.specs.Fields.{CivilTime, Certificate, RevocationList}
use Rattle.cert_reasons.specs.declared.certificates.Unusable.{Unusable}
use Rattle.cert_reasons.specs.declared.certificates.Unusable.TheVariants as unusable
use Rattle.cert_reasons.specs.declared.issuers.NoIssuer.{NoIssuer}
use Rattle.cert_reasons.specs.declared.issuers.NoIssuer.TheVariants as issuing
use Rattle.cert_reasons.specs.declared.links.Unlinked.{Unlinked}
use Rattle.cert_reasons.specs.declared.links.Unlinked.TheVariants as linking
use Rattle.cert_reasons.specs.declared.lists.Unused.{Unused}
use Rattle.cert_reasons.specs.declared.lists.Unused.TheVariants as listing
use Rattle.certpath_why.specs.Listed.{listed}
use Rattle.certpath_why.specs.Ranges.{range_text}
use Rattle.certpath_why.specs.declared.ranges.Range.{Range}
use Rattle.certpath_why.specs.Texts.{shown_name, shown_moment, shown_identifier}

-- an extension, by its position from 0
abbrev pub extension : ℕ → List ℕ
extension k = codes "extension " ++ decimal k

-- why a certificate is not usable
abbrev pub unusable_words : Certificate → Unusable → List ℕ
unusable_words c unusable.NotYetValid = codes "not valid before " ++ shown_moment c.not_before
unusable_words c unusable.Expired = codes "expired " ++ shown_moment c.not_after
unusable_words c (unusable.Repeats k) = extension k ++ (codes " repeats " ++ shown_identifier c.extensions k)
unusable_words c (unusable.Unprocessed k) = extension k ++ (codes " critical and not judged " ++ shown_identifier c.extensions k)
unusable_words c (unusable.BadConstraints k) = extension k ++ codes " basicConstraints not well written"
unusable_words c (unusable.BadUsage k) = extension k ++ codes " keyUsage not well written"

-- why it may not issue others
abbrev pub issuer_words : NoIssuer → List ℕ
issuer_words issuing.NoAuthority = codes "no authority"
issuer_words (issuing.NoCertSigning k) = extension k ++ codes " keyUsage without keyCertSign"
issuer_words (issuing.NameConstraints k) = extension k ++ codes " nameConstraints"
issuer_words (issuing.PolicyConstraints k) = extension k ++ codes " policyConstraints"

-- why it is not linked to an issuer or anchor
abbrev pub link_words : Unlinked → List ℕ
link_words linking.NotVouched = codes "no voucher"
link_words linking.KeyIdsDiffer = codes "key identifiers differ"
link_words (linking.RevokedBy p) = codes "revoked by list " ++ decimal p
link_words linking.NoUsedList = codes "no list used"

abbrev pub moment_or_none : Option CivilTime → List ℕ
moment_or_none (Some t) = shown_moment t
moment_or_none None = []

-- why a list is not used
abbrev pub list_words : RevocationList → Unused → List ℕ
list_words l listing.NotVouched = codes "no voucher by a key of its issuer"
list_words l listing.NoNextUpdate = codes "no next update"
list_words l listing.NotYetCurrent = codes "not current before " ++ shown_moment l.this_update
list_words l listing.PastNextUpdate = codes "past next update " ++ moment_or_none l.next_update
list_words l (listing.CriticalOfList k) = extension k ++ (codes " critical " ++ shown_identifier l.extensions k)
list_words l (listing.CriticalOfEntry k) = codes "entry " ++ (decimal k ++ codes " has a critical extension")

-- `at V`: of the certificate at a position
abbrev pub at_words : ℕ → List ℕ
at_words v = codes "at " ++ decimal v

-- the certificate's own line, with its subject
abbrev pub subject_line : ℕ → List ℕ → List ℕ
subject_line v subject = at_words v ++ (32 ∷ shown_name subject ++ 10 ∷ [])

abbrev pub unusable_line : ℕ → Certificate → Unusable → List ℕ
unusable_line v c reason = at_words v ++ (codes " not usable: " ++ (unusable_words c reason ++ 10 ∷ []))

abbrev pub issuer_line : ℕ → NoIssuer → List ℕ
issuer_line v reason = at_words v ++ (codes " no issuer: " ++ (issuer_words reason ++ 10 ∷ []))

-- no certificate and no anchor has its issuer's name
abbrev pub missing_line : ℕ → List ℕ → List ℕ
missing_line v issuer = at_words v ++ (codes " no issuer here: " ++ (shown_name issuer ++ 10 ∷ []))

-- an issuer that leads to an anchor only with so many certificates below it, as a path length has it (RFC 5280,
-- 6.1.4, l and m); the target and self-issued certificates don't count
abbrev pub reach_lines : ℕ → Reach → List ℕ
reach_lines v No = []
reach_lines v (UpTo n) = at_words v ++ (codes " leads to an anchor with at most " ++ (decimal n ++ codes " below\n"))
reach_lines v Any = []

-- `at V to `, with positions of certificates after it, and `at V to anchor `, with positions of anchors
abbrev pub to_items : ℕ → List ℕ
to_items v = at_words v ++ codes " to "

abbrev pub to_anchors : ℕ → List ℕ
to_anchors v = at_words v ++ codes " to anchor "

-- what is said of the links: that they hold, or what is against each of them
abbrev pub link_end : Option Unlinked → List ℕ
link_end None = codes " linked\n"
link_end (Some reason) = codes " not linked: " ++ (link_words reason ++ 10 ∷ [])

-- one line for some positions, and nothing for none
abbrev pub link_lines : List ℕ → Option Unlinked → List Range → List ℕ
link_lines front what [] = []
link_lines front what (r ∷ rs) = front ++ (listed range_text (r ∷ rs) ++ link_end what)

abbrev pub unused_line : ℕ → RevocationList → Unused → List ℕ
unused_line p l reason = codes "list " ++ (decimal p ++ (codes " not used: " ++ (list_words l reason ++ 10 ∷ [])))

-- a list's own line, with its issuer
abbrev pub list_line : ℕ → List ℕ → List ℕ
list_line p issuer = codes "list " ++ (decimal p ++ (32 ∷ shown_name issuer ++ 10 ∷ []))

-- nothing of a list that is used, else a line for each reason
abbrev pub list_lines : ℕ → List ℕ → RevocationList → List Unused → List ℕ
list_lines p issuer l [] = []
list_lines p issuer l (reason ∷ reasons) = list_line p issuer ++ flat_map (unused_line p l) (reason ∷ reasons)
