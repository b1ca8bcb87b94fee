-- Which lists the entries and anchors fill.
use Rattle.std.proofs.Common.{◌≡◌, ℕ, ◌+◌, ◌<◌, ◌≤◌, Option, Some, None, List, [], ◌∷◌, ◌++◌, length, take, get_or, arith, ap, sym, ◌∙◌, subst, inl, inr}
use Rattle.std.specs.Prelude.{◌↔◌, ◌⊎◌, Contains}
use Rattle.std.proofs.lemmas.Bool.{cases_lt}
use Rattle.std.proofs.lemmas.List.{take_more, take_all}
use Rattle.std.proofs.lemmas.List.Elements.{at_read, Contains-append_left, Contains-push, Contains-push_cases}
use Rattle.cert_graph.specs.Entries.{IsAt}
use Rattle.cert_graph.specs.Lists.{NamedSoFar}

pub is_at : {X : Type 0} (xs : List X) (v : ℕ) (x : X) → v < length xs → x ≡ get_or xs v x → (P : X → Type 0) → P x → IsAt xs v P
is_at xs v x within is P p = (within, at_read xs P v x within is p)

pub has_at : {X : Type 0} (xs : List X) (v : ℕ) (x : X) → x ≡ get_or xs v x → (P : X → Type 0) → IsAt xs v P → P x
has_at xs v x is P h = subst P (sym is) (h.1 x)

-- one element more, of one group or of none
pub some_step : {X : Type 0} (f : X → Option ℕ) (xs : List X) (v : ℕ) (x : X) (j : ℕ) → v < length xs → x ≡ get_or xs v x → f x ≡ Some j
    → (u k : ℕ) → u < v + 1 → IsAt xs u (λ e. f e ≡ Some k) ↔ (((u < v) × IsAt xs u (λ e. f e ≡ Some k)) ⊎ ((u ≡ v) × (k ≡ j)))
some_step f xs v x j within is e u k small = (
  λ h. elim (cases_lt u v) [
    | inl below ↦ inl (below, h)
    | inr above ↦
        let same : u ≡ v = omega arith in
        let own : f x ≡ Some k = has_at xs v x is (λ y. f y ≡ Some k) (subst (λ (n : ℕ). IsAt xs n (λ y. f y ≡ Some k)) same h) in
        let one : k ≡ j = cc in
        inr (same, one)
  ],
  λ h. elim h [
    | inl y ↦ y.1
    | inr y ↦ subst (λ (n : ℕ). IsAt xs n (λ z. f z ≡ Some k)) (sym y.0) (is_at xs v x within is (λ z. f z ≡ Some k) (e ∙ ap (λ (n : ℕ). Some n) (sym y.1)))
  ],
)

pub none_step : {X : Type 0} (f : X → Option ℕ) (xs : List X) (v : ℕ) (x : X) → x ≡ get_or xs v x → f x ≡ None
    → (u k : ℕ) → u < v + 1 → IsAt xs u (λ e. f e ≡ Some k) ↔ ((u < v) × IsAt xs u (λ e. f e ≡ Some k))
none_step f xs v x is e u k small = (
  λ h. elim (cases_lt u v) [
    | inl below ↦ (below, h)
    | inr above ↦
        let same : u ≡ v = omega arith in
        let own : f x ≡ Some k = has_at xs v x is (λ y. f y ≡ Some k) (subst (λ (n : ℕ). IsAt xs n (λ y. f y ≡ Some k)) same h) in
        absurd (cc)
  ],
  λ h. h.1,
)

-- the groups that an entry names, from none to all
pub named_none : (R : ℕ → ℕ → Type 0) (v : ℕ) → (u k : ℕ) → u < v + 1 → NamedSoFar R v [] u k ↔ ((u < v) × R u k)
named_none R v u k small = (
  λ h. elim h [ inl x ↦ x | inr x ↦ let at = x.1 in absurd (omega (arith, at.1)) ],
  λ x. inl x,
)

pub named_more : (R : ℕ → ℕ → Type 0) (v : ℕ) (named : List ℕ) (i : ℕ) → i < length named → (u k : ℕ) → u < v + 1
    → NamedSoFar R v (take (i + 1) named) u k ↔ (((u < v + 1) × NamedSoFar R v (take i named) u k) ⊎ ((u ≡ v) × (k ≡ get_or named i 0)))
named_more R v named i within u k small =
    let more = take_more named i 0 within in (
      λ h. elim h [
        | inl x ↦ inl (small, inl x)
        | inr x ↦ elim (Contains-push_cases (take i named) (get_or named i 0) k (subst (λ (xs : List ℕ). Contains xs k) more x.1)) [
          | inl y ↦ inl (small, inr (x.0, y))
          | inr e ↦ inr (x.0, sym e)
        ]
      ],
      λ h. elim h [
        | inl x ↦ elim x.1 [
          | inl y ↦ inl y
          | inr y ↦ inr (y.0, subst (λ (xs : List ℕ). Contains xs k) (sym more) (Contains-append_left (take i named) (get_or named i 0 ∷ []) k y.1))
        ]
        | inr x ↦ inr (x.0, subst (λ (xs : List ℕ). Contains xs k) (sym more) (subst (λ (n : ℕ). Contains (take i named ++ get_or named i 0 ∷ []) n) (sym x.1) (Contains-push (take i named) (get_or named i 0))))
      ],
    )

pub named_all : {X : Type 0} (f : X → List ℕ) (entries : List X) (v : ℕ) (e : X) (named : List ℕ) (i : ℕ) → v < length entries → e ≡ get_or entries v e → named ≡ f e → length named ≤ i
    → (u k : ℕ) → u < v + 1 → IsAt entries u (λ x. Contains (f x) k) ↔ ((u < v + 1) × NamedSoFar (λ w j. IsAt entries w (λ x. Contains (f x) j)) v (take i named) u k)
named_all f entries v e named i within is own past u k small =
    let whole : take i named ≡ f e = take_all i named past ∙ own in (
      λ h. elim (cases_lt u v) [
        | inl below ↦ (small, inl (below, h))
        | inr above ↦
            let same : u ≡ v = omega arith in
            (small, inr (same, subst (λ (xs : List ℕ). Contains xs k) (sym whole) (has_at entries v e is (λ y. Contains (f y) k) (subst (λ (n : ℕ). IsAt entries n (λ x. Contains (f x) k)) same h))))
      ],
      λ h. elim h.1 [
        | inl x ↦ x.1
        | inr x ↦ subst (λ (n : ℕ). IsAt entries n (λ y. Contains (f y) k)) (sym x.0) (is_at entries v e within is (λ y. Contains (f y) k) (subst (λ (xs : List ℕ). Contains xs k) whole x.1))
      ],
    )
