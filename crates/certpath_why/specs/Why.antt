-- What prevents a path: the lines of a certificate, of a list, and the whole. A text is related
-- to the items by the definitions of reasons, each list of which is exact and in its order. This page is to
-- be believed.
use Rattle.std.specs.Prelude.{◌≡◌, ◌↔◌, ◌⊎◌, ◌<◌, ℕ, zero, suc, nat_eq, Bool, if◌then◌else◌, List, [], ◌∷◌, ◌++◌, length, map, Contains, Option, Some, None}
use Rattle.std.specs.List.{flat_map}
use Rattle.std.specs.List.Sorted.{IsStrictlyIncreasing}
use Rattle.cert_graph.specs.Entries.{IsAt}
use Rattle.cert_graph.specs.declared.answer.Answer.{Answer}
use Rattle.cert_model.specs.Class.{Class, certificate, list, other}
use Rattle.cert_model.specs.Fields.{Certificate, RevocationList}
use Rattle.cert_model.specs.Octets.{name_octets, key_octets}
use Rattle.cert_judge.specs.Revoking.{Item, JudgingContext}
use Rattle.cert_judge.specs.ItemGraph.{IsCertificateWith, KeyIdsAgree, IsLink, IsAnchorLink}
use Rattle.cert_reasons.specs.declared.certificates.Unusable.{Unusable}
use Rattle.cert_reasons.specs.declared.issuers.NoIssuer.{NoIssuer}
use Rattle.cert_reasons.specs.declared.links.Unlinked.{Unlinked}
use Rattle.cert_reasons.specs.declared.links.Unlinked.TheVariants.{NotVouched, KeyIdsDiffer, RevokedBy, NoUsedList}
use Rattle.cert_reasons.specs.declared.lists.Unused.{Unused}
use Rattle.cert_reasons.specs.Order.{AreAll}
use Rattle.cert_reasons.specs.Certificates.{HasReason, order_of}
use Rattle.cert_reasons.specs.Issuers.{HasIssuerReason, issuer_order}
use Rattle.cert_reasons.specs.Links.{HasLinkReason}
use Rattle.cert_reasons.specs.Lists.{HasReasonAmong, list_order}
use Rattle.certpath_inputs.specs.Demands.{of_purpose, target_octets}
use Rattle.certpath_inputs.specs.declared.demand.Demand.{Demand}
use Rattle.certpath_why.specs.Bounds.{reach_by, IsBound}
use Rattle.certpath_why.specs.Demanded.{AreDemandLines}
use Rattle.certpath_why.specs.Lines.{reach_lines, subject_line, unusable_line, issuer_line, missing_line, to_items, to_anchors, link_lines, list_lines}
use Rattle.certpath_why.specs.Ranges.{AreRanges}
use Rattle.certpath_why.specs.declared.ranges.Range.{Range}
use Rattle.certpath_why.specs.Reached.{HasSubject, IsCertificateAt, IsFurther, ArePositions}

-- a text for each element of a list, one after another
abbrev pub AreTexts : {X : Type 0} → (X → List ℕ → Type 0) → List X → List ℕ → Type 0
AreTexts IsText [] text = text ≡ []
AreTexts IsText (x ∷ xs) text = (first : List ℕ) × (rest : List ℕ) × IsText x first × AreTexts IsText xs rest × (text ≡ first ++ rest)

-- a line for each reason why the certificate at a position is not usable
abbrev pub AreUnusableLines : JudgingContext → ℕ → Item → Certificate → List ℕ → Type 0
AreUnusableLines r v x c text = (reasons : List Unusable) × AreAll order_of (HasReason (r.Processes x.octets) r.moment c) reasons × (text ≡ flat_map (unusable_line v c) reasons)

-- a line for each reason why it may not issue others; none of the target, which needs to issue nothing
abbrev pub AreNoIssuerLines : Bool → ℕ → Certificate → List ℕ → Type 0
AreNoIssuerLines is_target v c text =
    (reasons : List NoIssuer) × AreAll issuer_order (HasIssuerReason c) reasons × (text ≡ (if is_target then [] else flat_map (issuer_line v) reasons))

-- A line of exactly the positions that are linked, or that a reason is against.
abbrev pub TellsGroup : List ℕ → Option Unlinked → (ℕ → Type 0) → List ℕ → Type 0
TellsGroup front what P text = (ranges : List Range) × AreRanges P ranges × (text ≡ link_lines front what ranges)

-- a list revokes it for a position, and none before it does: the first that revokes ends the matter (RFC 5280, 6.3.3)
abbrev pub RevokesFirst : (Unlinked → ℕ → Type 0) → ℕ → ℕ → Type 0
RevokesFirst Fails p w = Fails (RevokedBy p) w × ((q : ℕ) → q < p → Fails (RevokedBy q) w → ⊥)

-- To which positions a certificate is linked, and then for each reason to which it is not. The lists are those that are the first to
-- revoke it for one of the positions, and it may be others: of a list that is the first for none there is no line.
pub record TellsGroups (front : List ℕ) (Linked : ℕ → Type 0) (Fails : Unlinked → ℕ → Type 0) (text : List ℕ) : Type 0 where
  pub linked : List ℕ
  pub linked_is : TellsGroup front None Linked linked
  pub unvouched : List ℕ
  pub unvouched_is : TellsGroup front (Some NotVouched) (Fails NotVouched) unvouched
  pub differing : List ℕ
  pub differing_is : TellsGroup front (Some KeyIdsDiffer) (Fails KeyIdsDiffer) differing
  pub lists : List ℕ
  pub lists_ascend : IsStrictlyIncreasing lists
  pub lists_are_all : (p w : ℕ) → RevokesFirst Fails p w → Contains lists p
  pub revoked : List ℕ
  pub revoked_is : AreTexts (λ p. TellsGroup front (Some (RevokedBy p)) (RevokesFirst Fails p)) lists revoked
  pub lacking : List ℕ
  pub lacking_is : TellsGroup front (Some NoUsedList) (Fails NoUsedList) lacking
  pub text_is : text ≡ linked ++ (unvouched ++ (differing ++ (revoked ++ lacking)))

-- the lines of links
abbrev pub AreLinkLines : List ℕ → (ℕ → Type 0) → (Unlinked → ℕ → Type 0) → List ℕ → Type 0
AreLinkLines = TellsGroups

-- a certificate is linked to the one at a position
abbrev pub IsLinkedTo : JudgingContext → List Item → Item → ℕ → Type 0
IsLinkedTo r items x w = IsAt items w (IsLink r items x)

-- a reason is against its link to the one of its issuer's name at a position
abbrev pub FailsTo : JudgingContext → List Item → Item → Certificate → Unlinked → ℕ → Type 0
FailsTo r items x c reason w = IsAt items w (IsCertificateWith (λ d. (name_octets d.subject ≡ name_octets c.issuer)
    × HasLinkReason r items x c (name_octets d.subject) (key_octets d.key) (KeyIdsAgree c d) reason))

-- it is linked to the anchor at a position
abbrev pub IsLinkedToAnchor : JudgingContext → List Item → List Item → Item → ℕ → Type 0
IsLinkedToAnchor r items anchors x a = IsAt anchors a (IsAnchorLink r items x)

-- a reason is against its link to the anchor of its issuer's name at a position, of which the subject and the key count and nothing else
abbrev pub FailsToAnchor : JudgingContext → List Item → List Item → Item → Certificate → Unlinked → ℕ → Type 0
FailsToAnchor r items anchors x c reason a = IsAt anchors a (IsCertificateWith (λ d. (name_octets d.subject ≡ name_octets c.issuer)
    × HasLinkReason r items x c (name_octets d.subject) (key_octets d.key) (Unit {0}) reason))

-- a line if no certificate and no anchor has its issuer's name
abbrev pub missing_lines : ℕ → List ℕ → List ℕ → List ℕ → List ℕ
missing_lines v issuer [] [] = missing_line v issuer
missing_lines v issuer (w ∷ ws) roots = []
missing_lines v issuer [] (a ∷ roots) = []

-- What is said of a certificate, given the certificates and anchors of its issuer's name.
pub record TellsLinks (r : JudgingContext) (items anchors : List Item) (v : ℕ) (x : Item) (c : Certificate) (text : List ℕ) : Type 0 where
  pub issuers : List ℕ
  pub issuers_are : ArePositions (HasSubject items (name_octets c.issuer)) issuers
  pub roots : List ℕ
  pub roots_are : ArePositions (HasSubject anchors (name_octets c.issuer)) roots
  pub to_issuers : List ℕ
  pub to_issuers_is : TellsGroups (to_items v) (IsLinkedTo r items x) (FailsTo r items x c) to_issuers
  pub to_roots : List ℕ
  pub to_roots_is : TellsGroups (to_anchors v) (IsLinkedToAnchor r items anchors x) (FailsToAnchor r items anchors x c) to_roots
  pub text_is : text ≡ to_issuers ++ (to_roots ++ missing_lines v (name_octets c.issuer) issuers roots)

-- the octets of the item at a position; none if there is none
abbrev pub octets_at : List Item → ℕ → List ℕ
octets_at items v = target_octets (map (λ x. x.octets) items) v

-- All lines of a certificate.
pub record TellsCertificate (demand : Demand) (r : JudgingContext) (items anchors : List Item) (target v : ℕ) (x : Item) (c : Certificate) (text : List ℕ) : Type 0 where
  pub unusable : List ℕ
  pub unusable_is : AreUnusableLines r v x c unusable
  pub unmet : List ℕ
  pub unmet_is : AreDemandLines demand (octets_at items target) v x c unmet
  pub no_issuer : List ℕ
  pub no_issuer_is : AreNoIssuerLines (nat_eq v target) v c no_issuer
  pub links : List ℕ
  pub links_are : TellsLinks r items anchors v x c links
  pub text_is : text ≡ subject_line v (name_octets c.subject) ++ (unusable ++ (unmet ++ (no_issuer ++ links)))

abbrev pub TellsAt : Demand → JudgingContext → List Item → List Item → ℕ → ℕ → List ℕ → Type 0
TellsAt demand r items anchors target v text = IsAt items v (λ x. IsCertificateWith (λ c. TellsCertificate demand r items anchors target v x c text) x)

-- a certificate among these has this subject and key
abbrev pub HasKeyHere : List Item → List ℕ → List ℕ → Type 0
HasKeyHere items name key = (w : ℕ) × IsAt items w (IsCertificateWith (λ d. (name_octets d.subject ≡ name) × (key_octets d.key ≡ key)))

-- exactly the keys of the certificates and anchors of a name
abbrev pub AreKeysOf : List Item → List Item → List ℕ → List (List ℕ) → Type 0
AreKeysOf items anchors name keys = (key : List ℕ) → Contains keys key ↔ (HasKeyHere items name key ⊎ HasKeyHere anchors name key)

-- what is said of a list: nothing if it is used under one of the keys of its issuer's name
abbrev pub TellsList : JudgingContext → List Item → List Item → ℕ → Item → RevocationList → List ℕ → Type 0
TellsList r items anchors p x l text =
    (keys : List (List ℕ)) × (reasons : List Unused) × AreKeysOf items anchors (name_octets l.issuer) keys
    × AreAll list_order (HasReasonAmong r keys x l) reasons × (text ≡ list_lines p (name_octets l.issuer) l reasons)

-- what is said of an item that is a list; of others nothing
abbrev pub TellsItem : JudgingContext → List Item → List Item → ℕ → Item → Class → List ℕ → Type 0
TellsItem r items anchors p x (certificate c) text = text ≡ []
TellsItem r items anchors p x (list l) text = TellsList r items anchors p x l text
TellsItem r items anchors p x other text = text ≡ []

abbrev pub TellsItemAt : JudgingContext → List Item → List Item → ℕ → List ℕ → Type 0
TellsItemAt r items anchors p text = IsAt items p (λ x. TellsItem r items anchors p x x.class text)

-- the positions from the first on
abbrev pub positions : ℕ → List ℕ
positions zero = []
positions (suc k) = positions k ++ k ∷ []

-- The lines of the target, if it is a certificate, and then of each further one that is reached
-- from it; then how far each of those leads whose path length, or that of an issuer above it,
-- prevents a path. The lines of certificates are by the first rules, and the answer is by the
-- second: these vouch for less if something is demanded.
pub record TellsReached (demand : Demand) (r search : JudgingContext) (items anchors : List Item) (target : ℕ) (answer : Answer) (text : List ℕ) : Type 0 where
  pub further : List ℕ
  pub further_are : ArePositions (IsFurther items target) further
  pub own : List ℕ
  pub own_is : TellsAt demand r items anchors target target own ⊎ ((IsCertificateAt items target → ⊥) × (own ≡ []))
  pub rest : List ℕ
  pub rest_is : AreTexts (TellsAt demand r items anchors target) further rest
  pub bound : List ℕ
  pub bound_are : ArePositions (IsBound search items target (reach_by answer)) bound
  pub text_is : text ≡ own ++ (rest ++ flat_map (λ v. reach_lines v (reach_by answer v)) bound)

-- The whole: what is reached, and the lists that nobody uses.
pub record IsWhyFor (demand : Demand) (r search : JudgingContext) (items anchors : List Item) (target : ℕ) (answer : Answer) (text : List ℕ) : Type 0 where
  pub reached : List ℕ
  pub reached_is : TellsReached demand r search items anchors target answer reached
  pub lists : List ℕ
  pub lists_are : AreTexts (TellsItemAt r items anchors) (positions (length items)) lists
  pub text_is : text ≡ reached ++ lists

-- exactly those lines are appended
abbrev pub AppendsWhyFor : Demand → JudgingContext → JudgingContext → List Item → List Item → ℕ → Answer → List ℕ → List ℕ → Type 0
AppendsWhyFor demand r search items anchors target answer old new = (text : List ℕ) × (new ≡ old ++ text) × IsWhyFor demand r search items anchors target answer text

-- without a demand
abbrev pub IsWhy : JudgingContext → List Item → List Item → ℕ → Answer → List ℕ → Type 0
IsWhy r = IsWhyFor (of_purpose None) r r

abbrev pub AppendsWhy : JudgingContext → List Item → List Item → ℕ → Answer → List ℕ → List ℕ → Type 0
AppendsWhy r = AppendsWhyFor (of_purpose None) r r
