-- That the values of a set are put in order, that one order is left to them, and that it is lost by
-- no reading.
use Rattle.std.proofs.Common.{arith, ◌≡◌, ◌≢◌, ◌∙◌, refl, sym, ap, subst, ℕ, Bool, true, false, cond, List, [], ◌∷◌, map}
use Rattle.std.specs.List.{sum_by}
use Rattle.std.specs.List.Sorted.{IsPermutation}
use Rattle.std.specs.Cmp.Lexicographic.{slice_cmp}
use Rattle.std.specs.FinMap.{slice_cmp-IsAntisymmetric, nat_cmp-IsAntisymmetric}
use Rattle.std.specs.declared.cmp.Ordering.{Ordering}
use Rattle.std.specs.declared.cmp.Ordering.TheVariants.{Less, Equal, Greater}
use Rattle.std.specs.Ordering.{nat_cmp, is_gt, ordering_reverse}
use Rattle.std.proofs.lemmas.Cmp.{nat_list_cmp_total}
use Rattle.std.proofs.lemmas.List.Sums.{sum_by-cons}
use Rattle.std.proofs.lemmas.List.Sorted.{IsPermutation-refl, IsPermutation-sym, IsPermutation-trans, IsPermutation-cons, IsPermutation-middle, IsPermutation-map, sum_by-IsPermutation}
use Rattle.asn1_lists.specs.Ordered.{comes_after, AfterNone, Ascending, put_in_order, in_order}

-- ---- the order of octets

-- what comes after doesn't come before
pub turned : (xs ys : List ℕ) → comes_after xs ys ≡ true → comes_after ys xs ≡ false
turned xs ys after =
    let back = nat_list_cmp_total.antisymm ys xs in
    elim (slice_cmp nat_cmp xs ys) as (λ r. is_gt r ≡ true → slice_cmp nat_cmp ys xs ≡ ordering_reverse r → comes_after ys xs ≡ false) [
      | Less ↦ λ h e. absurd (let P : Bool → Type 0 = λ b. cond b (Unit {0}) ⊥ in let x : ⊥ = subst (λ b. cond b ⊥ (Unit {0})) h tt in x)
      | Equal ↦ λ h e. ap is_gt e
      | Greater ↦ λ h e. ap is_gt e
    ] after back

-- two lists of octets of which neither comes after the other are equal
pub neither : (xs ys : List ℕ) → comes_after xs ys ≡ false → comes_after ys xs ≡ false → xs ≡ ys
neither xs ys not_left not_right =
    let back = nat_list_cmp_total.antisymm ys xs in
    elim (slice_cmp nat_cmp xs ys) as (λ r. slice_cmp nat_cmp xs ys ≡ r → slice_cmp nat_cmp ys xs ≡ ordering_reverse r → xs ≡ ys) [
      | Less ↦ λ h e. absurd (let f : true ≡ false = sym (ap is_gt e) ∙ not_right in subst (λ b. cond b (Unit {0}) ⊥) f tt)
      | Equal ↦ λ h e. slice_cmp-IsAntisymmetric nat_cmp-IsAntisymmetric xs ys h
      | Greater ↦ λ h e. absurd (let f : true ≡ false = sym (ap is_gt h) ∙ not_left in subst (λ b. cond b (Unit {0}) ⊥) f tt)
    ] refl back

no_less : (r : Ordering) → is_gt r ≡ false → r ≢ Less → r ≡ Equal
no_less Less h ne = absurd (ne refl)
no_less Equal h ne = refl
no_less Greater h ne = absurd (subst (λ b. cond b (Unit {0}) ⊥) h tt)

-- what doesn't come after octets doesn't come after later ones
pub onward : (xs ys zs : List ℕ) → comes_after xs ys ≡ false → comes_after ys zs ≡ false → comes_after xs zs ≡ false
onward xs ys zs first second =
    let o = nat_list_cmp_total in
    elim (slice_cmp nat_cmp xs ys) as (λ r. slice_cmp nat_cmp xs ys ≡ r → comes_after xs zs ≡ false) [
      | Less ↦ λ p. elim (slice_cmp nat_cmp ys zs) as (λ s. slice_cmp nat_cmp ys zs ≡ s → comes_after xs zs ≡ false) [
        | Less ↦ λ q. ap is_gt (o.trans xs ys zs p q)
        | Equal ↦ λ q. let same : ys ≡ zs = slice_cmp-IsAntisymmetric nat_cmp-IsAntisymmetric ys zs q in subst (λ w. comes_after xs w ≡ false) same first
        | Greater ↦ λ q. absurd (let f : true ≡ false = sym (ap is_gt q) ∙ second in subst (λ b. cond b (Unit {0}) ⊥) f tt)
      ] refl
      | Equal ↦ λ p. let same : ys ≡ xs = sym (slice_cmp-IsAntisymmetric nat_cmp-IsAntisymmetric xs ys p) in subst (λ w. comes_after w zs ≡ false) same second
      | Greater ↦ λ p. absurd (let f : true ≡ false = sym (ap is_gt p) ∙ first in subst (λ b. cond b (Unit {0}) ⊥) f tt)
    ] refl

pub after_none_onward : (xs ys : List ℕ) (rest : List (List ℕ)) → comes_after xs ys ≡ false → AfterNone ys rest → AfterNone xs rest
after_none_onward xs ys [] first h = tt
after_none_onward xs ys (zs ∷ rest) first h = (onward xs ys zs first h.0, after_none_onward xs ys rest first h.1)

-- ---- values put in order

module _ {V : Type 0} (key : V → List ℕ) where
  after_none_put : (xs : List ℕ) (v : V) (ws : List V) → comes_after xs (key v) ≡ false → AfterNone xs (map key ws) → AfterNone xs (map key (put_in_order key v ws))
  after_none_put xs v [] first h = (first, tt)
  after_none_put xs v (w ∷ ws) first h =
      elim (comes_after (key v) (key w)) as (λ b. AfterNone xs (map key (cond b (w ∷ put_in_order key v ws) (v ∷ w ∷ ws)))) [
        | true ↦ (h.0, after_none_put xs v ws first h.1)
        | false ↦ (first, h)
      ]

  ascending_put : (v : V) (ws : List V) → Ascending (map key ws) → Ascending (map key (put_in_order key v ws))
  ascending_put v [] h = (tt, tt)
  ascending_put v (w ∷ ws) h =
      elim (comes_after (key v) (key w)) as (λ b. comes_after (key v) (key w) ≡ b → Ascending (map key (cond b (w ∷ put_in_order key v ws) (v ∷ w ∷ ws)))) [
        | true ↦ λ e. (after_none_put (key w) v ws (turned (key v) (key w) e) h.0, ascending_put v ws h.1)
        | false ↦ λ e. ((e, after_none_onward (key v) (key w) (map key ws) e h.0), h)
      ] refl

  pub ascending_in_order : (vs : List V) → Ascending (map key (in_order key vs))
  ascending_in_order [] = tt
  ascending_in_order (v ∷ vs) = ascending_put v (in_order key vs) (ascending_in_order vs)

  permuted_put : (v : V) (ws : List V) → IsPermutation (v ∷ ws) (put_in_order key v ws)
  permuted_put v [] = IsPermutation-refl (v ∷ [])
  permuted_put v (w ∷ ws) =
      elim (comes_after (key v) (key w)) as (λ b. IsPermutation (v ∷ w ∷ ws) (cond b (w ∷ put_in_order key v ws) (v ∷ w ∷ ws))) [
        | true ↦
            IsPermutation-trans (v ∷ w ∷ ws) (w ∷ v ∷ ws) (w ∷ put_in_order key v ws)
            (IsPermutation-sym (w ∷ v ∷ ws) (v ∷ w ∷ ws) (IsPermutation-middle (w ∷ []) v ws))
            (IsPermutation-cons w (v ∷ ws) (put_in_order key v ws) (permuted_put v ws))
        | false ↦ IsPermutation-refl (v ∷ w ∷ ws)
      ]

  pub permuted_in_order : (vs : List V) → IsPermutation vs (in_order key vs)
  permuted_in_order [] = IsPermutation-refl []
  permuted_in_order (v ∷ vs) =
      IsPermutation-trans (v ∷ vs) (v ∷ in_order key vs) (in_order key (v ∷ vs))
      (IsPermutation-cons v vs (in_order key vs) (permuted_in_order vs)) (permuted_put v (in_order key vs))

  -- what is in order stays as it is
  put_first : (v : V) (ws : List V) → AfterNone (key v) (map key ws) → put_in_order key v ws ≡ v ∷ ws
  put_first v [] h = refl
  put_first v (w ∷ ws) h = ap (λ (b : Bool). cond b (w ∷ put_in_order key v ws) (v ∷ w ∷ ws)) h.0

  pub in_order_already : (vs : List V) → Ascending (map key vs) → in_order key vs ≡ vs
  in_order_already [] h = refl
  in_order_already (v ∷ vs) h = ap (put_in_order key v) (in_order_already vs h.1) ∙ put_first v vs h.0

-- ---- one order is left

-- counts what is so
abbrev one_if : Bool → ℕ
one_if true = 1
one_if false = 0

none_below : (xs : List ℕ) (rest : List (List ℕ)) → AfterNone xs rest → sum_by (λ ys. one_if (comes_after xs ys)) rest ≡ 0
none_below xs [] h = refl
none_below xs (ys ∷ rest) h = sum_by-cons (λ z. one_if (comes_after xs z)) ys rest ∙ (let first : one_if (comes_after xs ys) ≡ 0 = ap one_if h.0 in omega (arith, first, none_below xs rest h.1))

-- an equal total of anything that is counted of them
abbrev pub SameTotals : List (List ℕ) → List (List ℕ) → Type 0
SameTotals left right = (count : List ℕ → ℕ) → sum_by count right ≡ sum_by count left

not_itself : (xs : List ℕ) → comes_after xs xs ≡ false
not_itself xs = elim (comes_after xs xs) as (λ b. comes_after xs xs ≡ b → comes_after xs xs ≡ false) [ true ↦ λ e. turned xs xs e | false ↦ λ e. e ] refl

-- the first of what ascends comes after none of the other list's
first_is_least : (xs ys : List ℕ) (left right : List (List ℕ)) → AfterNone xs left → SameTotals (xs ∷ left) (ys ∷ right) → comes_after xs ys ≡ false
first_is_least xs ys left right h same =
    let count : List ℕ → ℕ = λ z. one_if (comes_after xs z) in
    let own : count xs ≡ 0 = ap one_if (not_itself xs) in
    let none = none_below xs left h in
    let total = same count in
    let at_left = sum_by-cons count xs left in
    let at_right = sum_by-cons count ys right in
    elim (comes_after xs ys) as (λ b. comes_after xs ys ≡ b → comes_after xs ys ≡ false) [
      | true ↦ λ e. absurd (let one : count ys ≡ 1 = ap one_if e in omega (arith, own, none, total, at_left, at_right, one))
      | false ↦ λ e. e
    ] refl

same_rest : (xs : List ℕ) (left right : List (List ℕ)) → SameTotals (xs ∷ left) (xs ∷ right) → SameTotals left right
same_rest xs left right same count = omega (arith, same count, sum_by-cons count xs left, sum_by-cons count xs right)

no_total : (xs : List ℕ) (rest : List (List ℕ)) → sum_by (λ _. 1) (xs ∷ rest) ≡ 0 → ⊥
no_total xs rest e = omega (arith, e, sum_by-cons {X = List ℕ} (λ _. 1) xs rest)

pub one_order : (left right : List (List ℕ)) → Ascending left → Ascending right → SameTotals left right → left ≡ right
one_order [] [] a b same = refl
one_order [] (ys ∷ right) a b same = absurd (no_total ys right (same (λ _. 1)))
one_order (xs ∷ left) [] a b same = absurd (no_total xs left (sym (same (λ _. 1))))
one_order (xs ∷ left) (ys ∷ right) a b same =
    let is : xs ≡ ys = neither xs ys (first_is_least xs ys left right a.0 same) (first_is_least ys xs right left b.0 (λ count. sym (same count))) in
    let P : List ℕ → Type 0 = λ z. SameTotals (xs ∷ left) (z ∷ right) in
    let rest = one_order left right a.1 b.1 (same_rest xs left right (subst P (sym is) same)) in
    ap (λ z. z ∷ left) is ∙ ap (λ z. ys ∷ z) rest

pub totals_of : {V : Type 0} (key : V → List ℕ) (vs ws : List V) → IsPermutation vs ws → SameTotals (map key vs) (map key ws)
totals_of key vs ws h count = sum_by-IsPermutation count (map key vs) (map key ws) (IsPermutation-map key vs ws h)
