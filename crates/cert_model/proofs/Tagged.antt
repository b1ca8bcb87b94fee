-- Parts that may be absent, by their context-specific tag.
use Rattle.std.proofs.Common.{◌≡◌, ◌∙◌, ap, refl, ℕ, ◌^◌, ◌<◌, ◌==◌, List, [], ◌++◌, Bool, true, false, Option, Some, None, if◌then◌else◌, subst}
use Rattle.std.proofs.lemmas.Bool.{eqb-true, eq-eqb}
use Rattle.asn1_core.specs.Elements.{Element, element_octets}
use Rattle.der_tree.specs.Tree.{Tree, Trees, none, more, all_octets}
use Rattle.der_tree.specs.Shape.{AreObjects}
use Rattle.der_tree.specs.Access.{first_at, element_at}
use Rattle.der_tree.proofs.Shapes.{first_found, element_found, element_only}
use Rattle.cert_model.specs.Octets.{optional_octets}
use Rattle.cert_model.specs.Range.{IfThere, IsAny}
use Rattle.cert_model.specs.PieceOctets.{IsTagged, HasSmallContent}
use Rattle.cert_model.specs.Reads.{is_tagged, tagged_at}
use Rattle.cert_model.proofs.Cases.{both_true}
use Rattle.cert_model.proofs.Steps.{Parts, first_part, no_more}

-- what does not begin with this context-specific tag: nothing, or another element
pub data Otherwise (tag : ℕ) (r : List ℕ) : Type 0 where
  over : r ≡ [] → Otherwise tag r
  other : (e : Element) (x : List ℕ) → e.class < 4 → e.tag < 2 ^ 32 → is_tagged tag e ≡ false → r ≡ element_octets e ++ x → Otherwise tag r

tagged_test : (tag : ℕ) (e : Element) → IsTagged tag e → is_tagged tag e ≡ true
tagged_test tag e p =
    let class : (e.class == 2) ≡ true = eq-eqb e.class 2 p.class in
    let number : (e.tag == tag) ≡ true = eq-eqb e.tag tag p.number in
    rw (class, number) refl

tagged_none : (tag k : ℕ) (ts : Trees) (r : List ℕ) → Parts k r ts → Otherwise tag r → tagged_at tag ts ≡ (None, ts)
unfolding tagged_at
tagged_none tag k none r p q = refl
tagged_none tag k (more t us) r p (over z) = let gone = no_more k (more t us) (subst (λ s. Parts k s (more t us)) z p) in cc
tagged_none tag k (more t us) r p (other e x class number not z) =
    let m = first_part k (more t us) e x (subst (λ s. Parts k s (more t us)) z p) class number in
    let both : ◌≡◌ {A = Tree × Trees} (t, us) (m.tree, m.others) = cc in
    let here : element_at t ≡ e = ap (λ (y : Tree × Trees). element_at y.0) both ∙ element_only k m.tree e m.object m.in_range m.spelled in
    let test : is_tagged tag (element_at t) ≡ false = ap (is_tagged tag) here ∙ not in
    rw test refl

tagged_some : (tag : ℕ) (ts : Trees) (t : Tree) (us : Trees) (e : Element) → first_at ts ≡ Some (t, us) → is_tagged tag e ≡ true → element_at t ≡ e → tagged_at tag ts ≡ (Some e, us)
unfolding tagged_at
tagged_some tag none t us e f q w = cc
tagged_some tag (more x xs) t us e f q w =
    let both : ◌≡◌ {A = Tree × Trees} (x, xs) (t, us) = cc in
    let here : element_at x ≡ e = ap (λ (y : Tree × Trees). element_at y.0) both ∙ w in
    let test : is_tagged tag (element_at x) ≡ true = ap (is_tagged tag) here ∙ q in
    rw test (ap (λ z. (Some z, xs)) here ∙ ap (λ (y : Tree × Trees). (Some e, y.1)) both)

pub tagged_only : (tag k : ℕ) (ts : Trees) (o : Option Element) (r : List ℕ) → Parts k (optional_octets element_octets o ++ r) ts → IfThere (IsTagged tag) o → Otherwise tag r →
    (us : Trees) × (tagged_at tag ts ≡ (o, us)) × Parts k r us
tagged_only tag k ts None r p q w = (ts, tagged_none tag k ts r p w, p)
tagged_only tag k ts (Some e) r p q w =
    let m = first_part k ts e r p q.any.class q.any.tag in
    let is : element_at m.tree ≡ e = element_only k m.tree e m.object m.in_range m.spelled in
    (m.others, tagged_some tag ts m.tree m.others e m.is_first (tagged_test tag e q) is, m.rest)

tagged_step : (tag k : ℕ) (t : Tree) (ts : Trees) (b : Bool) (o : Option Element) (us : Trees) → AreObjects k (more t ts) → is_tagged tag (element_at t) ≡ b →
    ◌≡◌ {A = Option Element × Trees} (if b then (Some (element_at t), ts) else (None, more t ts)) (o, us) →
    AreObjects k us × IfThere (IsTagged tag) o × (all_octets (more t ts) ≡ optional_octets element_octets o ++ all_octets us)
tagged_step tag k t ts false o us p test e =
    let first : None ≡ o = ap (λ (y : Option Element × Trees). y.0) e in
    let second : more t ts ≡ us = ap (λ (y : Option Element × Trees). y.1) e in
    (subst (AreObjects k) second p, subst (IfThere (IsTagged tag)) first tt, ap (λ z. optional_octets element_octets z ++ all_octets (more t ts)) first ∙ ap (λ z. optional_octets element_octets o ++ all_octets z) second)
tagged_step tag k t ts true o us p test e =
    let first : Some (element_at t) ≡ o = ap (λ (y : Option Element × Trees). y.0) e in
    let second : ts ≡ us = ap (λ (y : Option Element × Trees). y.1) e in
    let m = first_found k (more t ts) t ts p refl in
    let cut = element_found k t m.0 in
    let tests = both_true ((element_at t).class == 2) ((element_at t).tag == tag) test in
    let any : IsAny (element_at t) = record { class = cut.in_range.class; tag = cut.in_range.tag } in
    let is : IsTagged tag (element_at t) = record { any = any; class = eqb-true (element_at t).class 2 tests.0; number = eqb-true (element_at t).tag tag tests.1 } in (
      subst (AreObjects k) second m.1,
      subst (IfThere (IsTagged tag)) first is,
      ap (λ z. z ++ all_octets ts) cut.octets ∙ ap (λ z. optional_octets element_octets z ++ all_octets ts) first ∙ ap (λ z. optional_octets element_octets o ++ all_octets z) second,
    )

pub tagged_found : (tag k : ℕ) (ts : Trees) → AreObjects k ts → let m = tagged_at tag ts in AreObjects k m.1 × IfThere (IsTagged tag) m.0 × (all_octets ts ≡ optional_octets element_octets m.0 ++ all_octets m.1)
unfolding tagged_at
tagged_found tag k none p = (p, tt, refl)
tagged_found tag k (more t ts) p =
    let m = tagged_at tag (more t ts) in
    tagged_step tag k t ts (is_tagged tag (element_at t)) m.0 m.1 p refl refl

small_step : (tag k : ℕ) (t : Tree) (ts : Trees) (b : Bool) → AreObjects k (more t ts) →
    IfThere HasSmallContent (let m : Option Element × Trees = if b then (Some (element_at t), ts) else (None, more t ts) in m.0)
small_step tag k t ts true p = (element_found k t (first_found k (more t ts) t ts p refl).0).size
small_step tag k t ts false p = tt

-- what is read of objects is no longer than an object may be
pub tagged_small : (tag k : ℕ) (ts : Trees) → AreObjects k ts → IfThere HasSmallContent (tagged_at tag ts).0
unfolding tagged_at
tagged_small tag k none p = tt
tagged_small tag k (more t ts) p = small_step tag k t ts (is_tagged tag (element_at t)) p
