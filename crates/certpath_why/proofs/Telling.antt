-- Texts that were appended, one after another.
use Rattle.std.proofs.Common.{◌+◌, add-one, nat_eq, if◌then◌else◌, eq-eqb, ne_eqb, ◌≡◌, ap, sym, subst, refl, ℕ, ◌<◌, ◌≤◌, List, [], ◌∷◌, ◌++◌, map, length, get_or, arith}
use Rattle.std.proofs.lemmas.List.{length-map}
use Rattle.cert_graph.specs.Entries.{IsAt}
use Rattle.cert_model.specs.Octets.{name_octets}
use Rattle.cert_judge.specs.declared.items.CertificateItem.{CertificateItem}
use Rattle.cert_judge.specs.declared.items.ReadItem.{ReadItem}
use Rattle.cert_judge.specs.declared.items.ReadItem.TheVariants.{Certificate as certificate_read}
use Rattle.cert_judge.specs.Items.{item_of, certificate_of, certificate_item}
use Rattle.cert_judge.specs.ItemGraph.{IsCertificateWith}
use Rattle.cert_judge.specs.Revoking.{Item}
use Rattle.cert_reasons.proofs.Certain.{viewed_by}
use Rattle.cert_judge.specs.Revoking.{JudgingContext}
use Rattle.cert_judge.specs.declared.items.ListItem.{ListItem}
use Rattle.cert_judge.specs.Items.{list_of, list_item}
use Rattle.cert_reasons.specs.declared.lists.Unused.{Unused}
use Rattle.cert_reasons.specs.Lists.{HasReasonAmong, list_order}
use Rattle.certpath_why.specs.Lines.{list_lines, to_items, to_anchors}
use Rattle.certpath_why.proofs.Texts.{texts_append, texts_one}
use Rattle.cert_reasons.specs.Order.{AreAll}
use Rattle.certpath_inputs.specs.declared.demand.Demand.{Demand}
use Rattle.certpath_why.specs.Demanded.{AreDemandLines}
use Rattle.certpath_why.specs.Why.{TellsGroups, IsLinkedTo, FailsTo, IsLinkedToAnchor, FailsToAnchor, AreTexts, missing_lines, TellsLinks, AreUnusableLines, AreNoIssuerLines, TellsCertificate, TellsAt, TellsItem, TellsItemAt, TellsList, AreKeysOf, positions, octets_at}
use Rattle.certpath_why.specs.Lines.{subject_line}
use Rattle.certpath_why.specs.Appended.{Appends}
use Rattle.certpath_why.specs.Reached.{HasSubject, ArePositions}
use Rattle.certpath_why.proofs.Joined.{then_appended}
use Rattle.certpath_why.proofs.Items.{at_read}

-- ---- texts that were appended

pub told_target : (place target : ℕ) (lines : List ℕ) → place ≡ target → [] ≡ (if nat_eq place target then [] else lines)
told_target place target lines e = ap (λ b. if b then [] else lines) (sym (eq-eqb place target e))

pub told_other : (place target : ℕ) (lines : List ℕ) → (place ≡ target → ⊥) → lines ≡ (if nat_eq place target then [] else lines)
told_other place target lines apart = ap (λ b. if b then [] else lines) (sym (ne_eqb place target apart))

pub tells_links : (r : JudgingContext) (items anchors : List Item) (v : ℕ) (x : CertificateItem) (ws hs : List ℕ) (first one two last : List ℕ)
    → ArePositions (HasSubject items x.issuer.now) ws → ArePositions (HasSubject anchors x.issuer.now) hs
    → Appends (TellsGroups (to_items v) (IsLinkedTo r items (certificate_item x)) (FailsTo r items (certificate_item x) (certificate_of x))) first one
    → Appends (TellsGroups (to_anchors v) (IsLinkedToAnchor r items anchors (certificate_item x)) (FailsToAnchor r items anchors (certificate_item x) (certificate_of x))) one two
    → last ≡ two ++ missing_lines v x.issuer.now ws hs → Appends (TellsLinks r items anchors v (certificate_item x) (certificate_of x)) first last
tells_links r items anchors v x ws hs first one two last w h a b is =
    let c = certificate_of x in
    let name = name_octets c.issuer in
    let missing = missing_lines v name ws hs in
    let end : last ≡ two ++ missing = subst (λ n. last ≡ two ++ missing_lines v n ws hs) x.issuer_is is in (
      a.0 ++ (b.0 ++ missing),
      then_appended first a.0 (b.0 ++ missing) one last (then_appended one b.0 missing two last end b.1) a.1,
      record {
        issuers = ws;
        issuers_are = subst (λ n. ArePositions (HasSubject items n) ws) x.issuer_is w;
        roots = hs;
        roots_are = subst (λ n. ArePositions (HasSubject anchors n) hs) x.issuer_is h;
        to_issuers = a.0;
        to_issuers_is = a.2;
        to_roots = b.0;
        to_roots_is = b.2;
        text_is = refl;
      },
    )

pub tells_certificate : (demand : Demand) (r : JudgingContext) (items anchors : List Item) (own : List ℕ) (target v : ℕ) (x : CertificateItem) (first one two three four last : List ℕ)
    → own ≡ octets_at items target
    → one ≡ first ++ subject_line v x.subject.now → Appends (AreUnusableLines r v (certificate_item x) (certificate_of x)) one two → Appends (AreDemandLines demand own v (certificate_item x) (certificate_of x)) two three
    → Appends (AreNoIssuerLines (nat_eq v target) v (certificate_of x)) three four
    → Appends (TellsLinks r items anchors v (certificate_item x) (certificate_of x)) four last → Appends (TellsCertificate demand r items anchors target v (certificate_item x) (certificate_of x)) first last
tells_certificate demand r items anchors own target v x first one two three four last at is a u b l =
    let c = certificate_of x in
    let subject = subject_line v (name_octets c.subject) in
    let begun : one ≡ first ++ subject = subst (λ n. one ≡ first ++ subject_line v n) x.subject_is is in
    let end : last ≡ three ++ (b.0 ++ l.0) = then_appended three b.0 l.0 four last l.1 b.1 in
    let middle : last ≡ two ++ (u.0 ++ (b.0 ++ l.0)) = then_appended two u.0 (b.0 ++ l.0) three last end u.1 in (
      subject ++ (a.0 ++ (u.0 ++ (b.0 ++ l.0))),
      then_appended first subject (a.0 ++ (u.0 ++ (b.0 ++ l.0))) one last (then_appended one a.0 (u.0 ++ (b.0 ++ l.0)) two last middle a.1) begun,
      record {
        unusable = a.0;
        unusable_is = a.2;
        unmet = u.0;
        unmet_is = subst (λ o. AreDemandLines demand o v (certificate_item x) c u.0) at u.2;
        no_issuer = b.0;
        no_issuer_is = b.2;
        links = l.0;
        links_are = l.2;
        text_is = refl;
      },
    )

pub tells_at : (demand : Demand) (r : JudgingContext) (read : List ReadItem) (anchors : List Item) (target v : ℕ) (x : CertificateItem) (first last : List ℕ) → IsAt read v (λ y. y ≡ certificate_read x)
    → Appends (TellsCertificate demand r (map item_of read) anchors target v (certificate_item x) (certificate_of x)) first last → Appends (TellsAt demand r (map item_of read) anchors target v) first last
tells_at demand r read anchors target v x first last at t = (
  t.0,
  t.1,
  (at_read (λ y. IsCertificateWith (λ c. TellsCertificate demand r (map item_of read) anchors target v y c t.0) y) read v x at).0 (certificate_of x, refl, t.2),
)

pub tells_list : (r : JudgingContext) (items anchors : List Item) (p : ℕ) (x : ListItem) (keys : List (List ℕ)) (rs : List Unused) (first last : List ℕ) → AreKeysOf items anchors x.issuer.now keys
    → AreAll list_order (HasReasonAmong r keys (list_item x) (list_of x)) rs → last ≡ first ++ list_lines p x.issuer.now (list_of x) rs → Appends (TellsList r items anchors p (list_item x) (list_of x)) first last
tells_list r items anchors p x keys rs first last are all is =
    let l = list_of x in (
      list_lines p (name_octets l.issuer) l rs,
      subst (λ n. last ≡ first ++ list_lines p n l rs) x.issuer_is is,
      (keys, rs, subst (λ n. AreKeysOf items anchors n keys) x.issuer_is are, all, refl),
    )

pub items_more : (r : JudgingContext) (read : List ReadItem) (anchors : List Item) (k : ℕ) (x : ReadItem) (first text more : List ℕ) → k < length read → x ≡ get_or read k x
    → Appends (AreTexts (TellsItemAt r (map item_of read) anchors) (positions k)) first text → Appends (TellsItem r (map item_of read) anchors k (item_of x) (item_of x).class) text more
    → Appends (AreTexts (TellsItemAt r (map item_of read) anchors) (positions (k + 1))) first more
items_more r read anchors k x first text more lt at h t =
    let P = TellsItemAt r (map item_of read) anchors in
    let one : P k t.0 = (viewed_by item_of read k x lt at (λ y. TellsItem r (map item_of read) anchors k y y.class t.0)).0 t.2 in (
      h.0 ++ t.0,
      then_appended first h.0 t.0 text more t.1 h.1,
      subst (λ n. AreTexts P (positions n) (h.0 ++ t.0)) (sym (add-one k)) (texts_append P (positions k) (k ∷ []) h.0 t.0 h.2 (texts_one P k t.0 one)),
    )

pub items_all : (P : ℕ → List ℕ → Type 0) (read : List ReadItem) (k : ℕ) (first text : List ℕ) → length read ≤ k → k ≤ length read → Appends (AreTexts P (positions k)) first text → Appends (AreTexts P (positions (length (map item_of read)))) first text
items_all P read k first text ge le h =
    let long = length-map read item_of in
    let end : k ≡ length (map item_of read) = omega arith in
    (h.0, h.1, subst (λ n. AreTexts P (positions n) h.0) end h.2)
