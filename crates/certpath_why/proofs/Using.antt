-- Under whose keys a list is used.
use Rattle.std.specs.Prelude.{◌↔◌}
use Rattle.std.proofs.Common.{Bool, true, ◌≡◌, ◌∙◌, ap, sym, subst, ℕ, List, map, Some}
use Rattle.std.specs.List.{Contains}
use Rattle.jiff_core.specs.declared.civil.datetime.DateTime.{DateTime}
use Rattle.cert_graph.specs.Entries.{IsAt}
use Rattle.cert_model.specs.Fields.{Certificate}
use Rattle.cert_model.specs.Octets.{name_octets, key_octets}
use Rattle.cert_judge.specs.declared.items.ListItem.{ListItem}
use Rattle.cert_judge.specs.declared.items.ReadItem.{ReadItem}
use Rattle.cert_judge.specs.declared.items.ReadItem.TheVariants.{Certificate as certificate_read, List as list_read, Other as other_read}
use Rattle.cert_judge.specs.Items.{item_of, rules_by, IsListWith}
use Rattle.cert_judge.specs.ItemGraph.{IsCertificateWith}
use Rattle.cert_judge.specs.Revoking.{Item, JudgingContext, HasUsedList}
use Rattle.cert_judge.specs.Vouching.{Vouching}
use Rattle.cert_reasons.specs.Listed.{ArePlaces, IsInForce, IsInForceAt, IsOf}
use Rattle.cert_reasons.proofs.Listing.{used_iff}
use Rattle.certpath_why.specs.Cuts.{IsCutOf}
use Rattle.certpath_why.specs.Ranges.{AreRanges, IsInRanges}
use Rattle.certpath_why.specs.Reached.{ArePositions, HasSubject}
use Rattle.certpath_why.specs.Signers.{AreOfIssuer, IsSignedBy, SignsAny, issuer_name}
use Rattle.certpath_why.specs.Used.{AreUsed, HasListAt, IsCurrentAndPlain, LacksListAt}
use Rattle.certpath_why.specs.declared.cuts.Cut.{Cut}
use Rattle.certpath_why.specs.declared.ranges.Range.{Range}
use Rattle.certpath_why.specs.declared.used.Used.{Used}
use Rattle.certpath_why.proofs.Against.{list_there, vouched_back, vouched_there}
use Rattle.certpath_why.proofs.Cutting.{cut_as}
use Rattle.certpath_why.proofs.Fating.{ranges_as}
use Rattle.certpath_why.proofs.Grouped.{cert_here, cert_iff}
use Rattle.certpath_why.proofs.Items.{held}

-- ---- lists in force

-- a list of the issuer is in force exactly if it is current and plain
in_force_item : (moment : DateTime) (name : List ℕ) (z : ReadItem) → (IsListWith (IsOf name) z × IsListWith (IsCurrentAndPlain moment) z) ↔ IsListWith (IsInForce moment name) z
in_force_item moment name (certificate_read y) = (λ h. h.0, λ h. (h, h))
in_force_item moment name (list_read l) = (λ h. record { issuer = h.0; current = h.1.current; plain = h.1.plain }, λ h. (h.issuer, record { current = h.current; plain = h.plain }))
in_force_item moment name (other_read o) = (λ h. h.0, λ h. (h, h))

in_force_iff : (moment : DateTime) (name : List ℕ) (xs : List ReadItem) (p : ℕ) → (IsAt xs p (IsListWith (IsOf name)) × IsAt xs p (IsListWith (IsCurrentAndPlain moment))) ↔ IsInForceAt xs moment name p
in_force_iff moment name xs p = (
  λ h. (h.0.0, λ d. (in_force_item moment name _).0 (h.0.1 d, h.1.1 d)),
  λ h. ((h.0, λ d. ((in_force_item moment name _).1 (h.1 d)).0), (h.0, λ d. ((in_force_item moment name _).1 (h.1 d)).1)),
)

pub in_force_lists : (moment : DateTime) (name : List ℕ) (xs : List ReadItem) (lists found : List ℕ) → ArePositions (λ p. IsAt xs p (IsListWith (IsOf name))) lists
    → ArePositions (λ p. Contains lists p × IsAt xs p (IsListWith (IsCurrentAndPlain moment))) found → ArePlaces (IsInForceAt xs moment name) found
in_force_lists moment name xs lists found are h = record {
  ascends = h.ascends;
  exact = λ p.
      let iff = in_force_iff moment name xs p in (
        λ c. let x = (h.exact p).0 c in iff.0 ((are.exact p).0 x.0, x.1),
        λ f. let y = iff.1 f in (h.exact p).1 ((are.exact p).1 y.0, y.1),
      );
}

-- the issuer of a list in force
pub issuer_there : (xs : List ReadItem) (moment : DateTime) (name : List ℕ) (p : ℕ) → IsInForceAt xs moment name p → IsAt xs p (λ z. issuer_name (item_of z).class ≡ Some name)
issuer_there xs moment name p h =
    let l = list_there xs moment name p h in
    (h.0, λ d. subst (λ (z : ReadItem). issuer_name (item_of z).class ≡ Some name) (sym (l.1.1 d)) (ap Some (sym l.0.issuer_is ∙ l.2)))

pub issuers_there : (xs : List ReadItem) (moment : DateTime) (name : List ℕ) (places : List ℕ) → ((p : ℕ) → Contains places p → IsInForceAt xs moment name p) → AreOfIssuer xs name places
issuers_there xs moment name places are p at = issuer_there xs moment name p (are p at)

-- ---- who signed a list

pub signs_there : (V : Vouching) (xs : List ReadItem) (others : List Item) (p : ℕ) (l : ListItem) (w : ℕ) → IsAt xs p (λ z. z ≡ list_read l) → IsAt xs p (λ z. IsSignedBy V.Vouches others (item_of z) w) ↔ IsSignedBy V.Vouches others (item_of (list_read l)) w
signs_there V xs others p l w at = (
  λ s. subst (λ (z : ReadItem). IsSignedBy V.Vouches others (item_of z) w) (at.1 (list_read l)) (s.1 (list_read l)),
  λ s. (at.0, λ d. subst (λ (z : ReadItem). IsSignedBy V.Vouches others (item_of z) w) (sym (at.1 d)) s),
)

list_signs : (V : Vouching) (others : List Item) (l : ListItem) (w : ℕ) → IsSignedBy V.Vouches others (item_of (list_read l)) w ↔ IsAt others w (IsCertificateWith (λ d. (l.issuer.now ≡ name_octets d.subject) × V.Vouches (key_octets d.key) l.octets.now))
list_signs V others l w = (
  λ s. (s.0, λ e. let q = s.1 e in (q.0, q.1, (l.issuer_is ∙ held q.2.0, q.2.1))),
  λ s. (s.0, λ e. let q = s.1 e in (q.0, q.1, (ap Some (sym l.issuer_is ∙ q.2.0), q.2.1))),
)

-- a list is used under the keys of those of the name that signed a list in force
pub having_iff : (V : Vouching) (moment : DateTime) (demand : Bool) (xs : List ReadItem) (others : List Item) (name : List ℕ) (lists : List ℕ) → ArePlaces (IsInForceAt xs moment name) lists
    → (w : ℕ) → SignsAny V.Vouches xs others lists w ↔ HasListAt (rules_by moment demand V) (map item_of xs) others name w
having_iff V moment demand xs others name lists are w =
    let r = rules_by moment demand V in
    let items = map item_of xs in
    let S : ListItem → Certificate → Type 0 = λ l d. (l.issuer.now ≡ name_octets d.subject) × V.Vouches (key_octets d.key) l.octets.now in
    let H : Certificate → Type 0 = λ d. (name_octets d.subject ≡ name) × HasUsedList r items (name_octets d.subject) (key_octets d.key) in (
      λ s.
          let p = s.0 in
          let l = list_there xs moment name p ((are.exact p).0 s.1) in
          let z = cert_here others w (S l.0) ((list_signs V others l.0 w).0 ((signs_there V xs others p l.0 w l.1).0 s.2)) in
          let key = key_octets z.1.key in
          let subject : name ≡ name_octets z.1.subject = sym l.2 ∙ z.5.0 in
          let used = (used_iff V moment demand name key xs lists are).0 (s.1.0, p, s.1.1, s.1.2, vouched_there V xs p l.0 key l.1 z.5.1) in
          (cert_iff others w z.0 z.1 z.2 z.3 z.4 H).0 (sym subject, subst (λ n. HasUsedList r items n key) subject used),
      λ h.
          let z = cert_here others w H h in
          let key = key_octets z.1.key in
          let a = (used_iff V moment demand name key xs lists are).1 (subst (λ n. HasUsedList r items n key) z.5.0 z.5.1) in
          let p = a.1 in
          let at : Contains lists p = (a.0, a.2, a.3) in
          let l = list_there xs moment name p ((are.exact p).0 at) in
          let signs = (cert_iff others w z.0 z.1 z.2 z.3 z.4 (S l.0)).0 (l.2 ∙ sym z.5.0, vouched_back V xs p l.0 key l.1 a.4) in
          (p, at, (signs_there V xs others p l.0 w l.1).1 ((list_signs V others l.0 w).1 signs)),
    )

-- ---- those that lack one

lacking_iff : (V : Vouching) (moment : DateTime) (demand : Bool) (items others : List Item) (name : List ℕ) → demand ≡ true → (w : ℕ)
    → (HasSubject others name w × (HasListAt (rules_by moment demand V) items others name w → ⊥)) ↔ LacksListAt (rules_by moment demand V) items others name w
lacking_iff V moment demand items others name is w =
    let r = rules_by moment demand V in
    let S : Certificate → Type 0 = λ d. name_octets d.subject ≡ name in
    let H : Certificate → Type 0 = λ d. (name_octets d.subject ≡ name) × HasUsedList r items (name_octets d.subject) (key_octets d.key) in
    let L : Certificate → Type 0 = λ d. (name_octets d.subject ≡ name) × ((demand ≡ true) × (HasUsedList r items (name_octets d.subject) (key_octets d.key) → ⊥)) in (
      λ h.
          let z = cert_here others w S h.0 in
          (cert_iff others w z.0 z.1 z.2 z.3 z.4 L).0 (z.5, (is, λ u. h.1 ((cert_iff others w z.0 z.1 z.2 z.3 z.4 H).0 (z.5, u)))),
      λ h.
          let z = cert_here others w L h in
          ((cert_iff others w z.0 z.1 z.2 z.3 z.4 S).0 z.5.0, λ u. z.5.1.1 ((cert_iff others w z.0 z.1 z.2 z.3 z.4 H).1 u).1),
    )

-- if lists aren't demanded, none is lacking
pub none_lacking_there : (V : Vouching) (moment : DateTime) (demand : Bool) (items others : List Item) (name : List ℕ) → (demand ≡ true → ⊥) → (w : ℕ) → LacksListAt (rules_by moment demand V) items others name w → ⊥
none_lacking_there V moment demand items others name none w h =
    let r = rules_by moment demand V in
    let z = cert_here others w (λ d. (name_octets d.subject ≡ name) × ((demand ≡ true) × (HasUsedList r items (name_octets d.subject) (key_octets d.key) → ⊥))) h in
    none z.5.1.0

-- what is kept under the position of one of them
abbrev pub AreUsedUnder : JudgingContext → List Item → List Item → ℕ → Used → Type 0
AreUsedUnder r items others first used = (name : List ℕ) → HasSubject others name first → AreUsed r items others name used

-- the certificates of a name, as they are worked out
pub used_made : (V : Vouching) (moment : DateTime) (demand : Bool) (xs : List ReadItem) (others : List Item) (name : List ℕ) (lists places signers : List ℕ) (all : List Range) (u : Used) → demand ≡ true → ArePlaces (IsInForceAt xs moment name) lists
    → ArePositions (HasSubject others name) places → AreRanges (Contains places) all → ArePositions (SignsAny V.Vouches xs others lists) signers → AreRanges (Contains signers) u.having.items
    → IsCutOf (λ w. IsInRanges all w × (Contains signers w → ⊥)) u.lacking → AreUsed (rules_by moment demand V) (map item_of xs) others name u
used_made V moment demand xs others name lists places signers all u is are named ranges signs having cut =
    let r = rules_by moment demand V in
    let items = map item_of xs in
    let iff : (w : ℕ) → Contains signers w ↔ HasListAt r items others name w = λ w.
    let h = having_iff V moment demand xs others name lists are w in
    (λ c. h.0 ((signs.exact w).0 c), λ l. (signs.exact w).1 (h.1 l)) in
    record {
      having = ranges_as u.having.items iff having;
      lacking = cut_as (λ w. IsInRanges all w × (Contains signers w → ⊥)) (LacksListAt r items others name) u.lacking
          (λ w.
          let l = lacking_iff V moment demand items others name is w in (
            λ y. l.0 ((named.exact w).0 ((ranges.exact w).0 y.0), λ h. y.1 ((iff w).1 h)),
            λ k. let y = l.1 k in ((ranges.exact w).1 ((named.exact w).1 y.0), λ c. y.1 ((iff w).0 c)),
          )) cut;
    }

-- of some positions, those with a list if one is demanded
pub listed_iff : (demand : Bool) (places : List ℕ) (having : List Range) (H : ℕ → Type 0) → demand ≡ true → AreRanges H having → (w : ℕ) → (Contains places w × IsInRanges having w) ↔ (Contains places w × (demand ≡ true → H w))
listed_iff demand places having H is are w = (λ y. (y.0, λ d. (are.exact w).0 y.1), λ y. (y.0, (are.exact w).1 (y.1 is)))

pub all_listed : (demand : Bool) (places : List ℕ) (H : ℕ → Type 0) → (demand ≡ true → ⊥) → (w : ℕ) → Contains places w ↔ (Contains places w × (demand ≡ true → H w))
all_listed demand places H none w = (λ c. (c, λ d. absurd (none d)), λ y. y.0)
