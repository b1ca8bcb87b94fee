-- Parts that are all of one kind: what is read of them is what their octets spell.
use Rattle.std.proofs.Common.{◌≡◌, ◌∙◌, sym, ap, refl, ℕ, ◌^◌, ◌<◌, List, [], ◌∷◌, ◌++◌, Option, Some, map, subst}
use Rattle.std.specs.List.{flat_map, AllByRecursion}
use Rattle.std.proofs.lemmas.Option.{option_and_then_some}
use Rattle.asn1_core.specs.Elements.{Element, element_octets}
use Rattle.der_tree.specs.Tree.{Tree, Trees, none, more, octets, all_octets}
use Rattle.der_tree.specs.Shape.{IsObject, AreObjects}
use Rattle.der_tree.specs.Access.{first_at}
use Rattle.der_tree.proofs.Shapes.{first_found}
use Rattle.cert_model.specs.Reads.{list_at}
use Rattle.cert_model.proofs.Steps.{Parts, first_part, no_more}

-- how values of a kind are spelled and read
pub record Kind (A : Type 0) : Type 0 where
  pub bytes : A → List ℕ
  pub read : Tree → Option A

-- each is one element, and read as it is spelled
pub record IsKind (A : Type 0) (kind : Kind A) (Is : A → Type 0) : Type 0 where
  pub element : (a : A) → Is a → (e : Element) × (e.class < 4) × (e.tag < 2 ^ 32) × (kind.bytes a ≡ element_octets e)
  pub found : (k : ℕ) (t : Tree) (a : A) → IsObject k t → kind.read t ≡ Some a → Is a × (kind.bytes a ≡ octets t)
  pub only : (k : ℕ) (t : Tree) (a : A) → IsObject k t → Is a → kind.bytes a ≡ octets t → kind.read t ≡ Some a

pub list_found : {A : Type 0} (kind : Kind A) (Is : A → Type 0) → IsKind A kind Is → (k : ℕ) (ts : Trees) (as' : List A) → AreObjects k ts → list_at kind.read ts ≡ Some as' →
    AllByRecursion Is as' × (all_octets ts ≡ flat_map kind.bytes as')
list_found kind Is laws k none [] p e = (tt, refl)
list_found kind Is laws k none (a ∷ as') p e = cc
list_found {A = A} kind Is laws k (more t ts) as' p e =
    option_and_then_some _ (kind.read t) as' e (λ a e0 r0.
    option_and_then_some _ (list_at kind.read ts) as' r0 (λ rest e1 r1.
    let same : a ∷ rest ≡ as' = cc in
    let f = first_found k (more t ts) t ts p refl in
    let m = laws.found k t a f.0 e0 in
    let n = list_found kind Is laws k ts rest f.1 e1 in
    rw (← same) ((m.0, n.0), ap (λ z. z ++ all_octets ts) (sym m.1) ∙ ap (λ z. kind.bytes a ++ z) n.1)))

list_after : {A : Type 0} (read : Tree → Option A) (ts : Trees) (t : Tree) (us : Trees) (a : A) (rest : List A) → first_at ts ≡ Some (t, us) → read t ≡ Some a → list_at read us ≡ Some rest → list_at read ts ≡ Some (a ∷ rest)
list_after read none t us a rest e f g = cc
list_after read (more x xs) t us a rest e f g =
    let both : ◌≡◌ {A = Tree × Trees} (x, xs) (t, us) = cc in
    let f' : read x ≡ Some a = ap (λ (z : Tree × Trees). read z.0) both ∙ f in
    let g' : list_at read xs ≡ Some rest = ap (λ (z : Tree × Trees). list_at read z.1) both ∙ g in
    rw (f', g') refl

pub list_only : {A : Type 0} (kind : Kind A) (Is : A → Type 0) → IsKind A kind Is → (k : ℕ) (ts : Trees) (as' : List A) → Parts k (flat_map kind.bytes as') ts → AllByRecursion Is as' →
    list_at kind.read ts ≡ Some as'
list_only kind Is laws k ts [] p q = ap (list_at kind.read) (no_more k ts p)
list_only kind Is laws k ts (a ∷ as') p q =
    let w = laws.element a q.0 in
    let p' : Parts k (element_octets w.0 ++ flat_map kind.bytes as') ts = subst (λ z. Parts k (z ++ flat_map kind.bytes as') ts) w.3 p in
    let m = first_part k ts w.0 (flat_map kind.bytes as') p' w.1 w.2 in
    list_after kind.read ts m.tree m.others a as' m.is_first (laws.only k m.tree a m.object q.0 (w.3 ∙ sym m.spelled)) (list_only kind Is laws k m.others as' m.rest q.1)

abbrev pub octets_list : Trees → List (List ℕ)
octets_list none = []
octets_list (more t ts) = octets t ∷ octets_list ts

pub list_octets : {A : Type 0} (kind : Kind A) (Is : A → Type 0) → IsKind A kind Is → (k : ℕ) (ts : Trees) (as' : List A) → AreObjects k ts → list_at kind.read ts ≡ Some as' → map kind.bytes as' ≡ octets_list ts
list_octets kind Is laws k none [] p e = refl
list_octets kind Is laws k none (a ∷ as') p e = cc
list_octets {A = A} kind Is laws k (more t ts) as' p e =
    option_and_then_some _ (kind.read t) as' e (λ a e0 r0.
    option_and_then_some _ (list_at kind.read ts) as' r0 (λ rest e1 r1.
    let same : a ∷ rest ≡ as' = cc in
    let f = first_found k (more t ts) t ts p refl in
    let m = laws.found k t a f.0 e0 in
    let n = list_octets kind Is laws k ts rest f.1 e1 in
    rw (← same) (ap (λ z. z ∷ map kind.bytes rest) m.1 ∙ ap (λ z. octets t ∷ z) n)))
