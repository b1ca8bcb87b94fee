-- What has an answer, yes or no. What has one holds if it isn't refuted.
use Rattle.std.specs.Prelude.{◌⊎◌}
use Rattle.std.proofs.Common.{◌≡◌, sym, subst, refl, ℕ, zero, suc, ◌<◌, ◌≤◌, Bool, true, false, List, [], ◌∷◌, ◌++◌, length, arith, inl, inr, bytes_eq, true≢false}
use Rattle.std.specs.List.{All, Contains}
use Rattle.std.proofs.lemmas.Bool.{cases_lt, false≢true}
use Rattle.std.proofs.lemmas.List.Elements.{All-nil, All-cons, All-head, All-tail}
use Rattle.std.proofs.lemmas.Slice.Eq.{bytes_eq-Decides}

abbrev pub Decided : Type 0 → Type 0
Decided P = P ⊎ (P → ⊥)

pub settled : {P : Type 0} → Decided P → ((P → ⊥) → ⊥) → P
settled answer refuted = elim answer [ inl p ↦ p | inr never ↦ absurd (refuted never) ]

pub decided_as : {P : Type 0} (Q : Type 0) → Decided P → (P → Q) → (Q → P) → Decided Q
decided_as Q answer to from = elim answer [ inl p ↦ inl (to p) | inr never ↦ inr (λ q. never (from q)) ]

-- what two parts make
pub from_both : (C : Type 0) {A B : Type 0} → (C → A) → (C → B) → (A → B → C) → Decided A → Decided B → Decided C
from_both C one two make a b = elim a [
  | inl x ↦ elim b [ inl y ↦ inl (make x y) | inr never ↦ inr (λ c. never (two c)) ]
  | inr never ↦ inr (λ c. never (one c))
]

pub either : {A B : Type 0} → Decided A → Decided B → Decided (A ⊎ B)
either a b = elim a [
  | inl x ↦ inl (inl x)
  | inr no_a ↦ elim b [ inl y ↦ inl (inr y) | inr no_b ↦ inr (λ c. elim c [ inl x ↦ no_a x | inr y ↦ no_b y ]) ]
]

pub implied : {A : Type 0} (b : Bool) → Decided A → Decided (b ≡ true → A)
implied true answer = elim answer [ inl x ↦ inl (λ e. x) | inr never ↦ inr (λ f. never (f refl)) ]
implied false answer = inl (λ e. absurd (false≢true e))

-- ---- tests, numbers and octets

pub by_test : (b : Bool) (P : Type 0) → (b ≡ true → P) → (P → b ≡ true) → Decided P
by_test true P found only = inl (found refl)
by_test false P found only = inr (λ p. false≢true (only p))

pub decided_true : (b : Bool) → Decided (b ≡ true)
decided_true true = inl refl
decided_true false = inr (λ e. false≢true e)

pub decided_false : (b : Bool) → Decided (b ≡ false)
decided_false true = inr (λ e. true≢false e)
decided_false false = inl refl

pub decided_same : (a b : List ℕ) → Decided (a ≡ b)
decided_same a b = let d = bytes_eq-Decides a b in by_test (bytes_eq a b) (a ≡ b) d.0 d.1

pub decided_less : (a b : ℕ) → Decided (a < b)
decided_less a b = elim (cases_lt a b) [ inl less ↦ inl less | inr more ↦ inr (λ less. absurd (omega arith)) ]

pub decided_most : (a b : ℕ) → Decided (a ≤ b)
decided_most a b = elim (cases_lt b a) [ inl less ↦ inr (λ most. absurd (omega arith)) | inr most ↦ inl most ]

-- ---- elements of lists

first : {X : Type 0} (x : X) (xs : List X) → Contains (x ∷ xs) x
first x xs = (0, (let lt : 0 < length (x ∷ xs) = omega arith in lt), refl)

later : {X : Type 0} (x : X) (xs : List X) (u : X) → Contains xs u → Contains (x ∷ xs) u
later x xs u h = let lt = h.1 in (suc h.0, (let next : suc h.0 < length (x ∷ xs) = omega arith in next), h.2)

parted : {X : Type 0} (x : X) (xs : List X) (u : X) → Contains (x ∷ xs) u → (x ≡ u) ⊎ Contains xs u
parted x xs u (zero, lt, is) = inl is
parted x xs u (suc k, lt, is) = inr (k, (let less : k < length xs = omega (arith, lt) in less), is)

none_in_none : {X : Type 0} (u : X) → Contains {X = X} [] u → ⊥
none_in_none u h = omega (arith, h.1)

pub decided_all : {X : Type 0} (P : X → Type 0) → ((x : X) → Decided (P x)) → (xs : List X) → Decided (All P xs)
decided_all P test [] = inl (All-nil P)
decided_all P test (x ∷ xs) = from_both (All P (x ∷ xs)) (λ all. All-head P x xs all) (λ all. All-tail P x xs all) (λ p ps. All-cons P x xs p ps) (test x) (decided_all P test xs)

pub decided_any : {X : Type 0} (P : X → Type 0) → ((x : X) → Decided (P x)) → (xs : List X) → Decided ((x : X) × Contains xs x × P x)
decided_any P test [] = inr (λ h. none_in_none h.0 h.1)
decided_any P test (x ∷ xs) = elim (test x) [
  | inl p ↦ inl (x, first x xs, p)
  | inr never ↦ elim (decided_any P test xs) [
    | inl f ↦ inl (f.0, later x xs f.0 f.1, f.2)
    | inr none ↦ inr (λ h. elim (parted x xs h.0 h.1) [ inl e ↦ never (subst P (sym e) h.2) | inr there ↦ none (h.0, there, h.2) ])
  ]
]

-- ---- ends of octets

empty_back : (front back : List ℕ) → [] ≡ front ++ back → back ≡ []
empty_back [] back e = sym e
empty_back (x ∷ front) back e = absurd (cc e)

no_back : (P : List ℕ → Type 0) (x : ℕ) (octets : List ℕ) → (P (x ∷ octets) → ⊥) → ((front back : List ℕ) → octets ≡ front ++ back → P back → ⊥) → (front back : List ℕ) → x ∷ octets ≡ front ++ back → P back → ⊥
no_back P x octets whole shorter [] back e p = whole (subst P (sym e) p)
no_back P x octets whole shorter (y ∷ front) back e p = shorter front back (let rest : octets ≡ front ++ back = cc in rest) p

-- some end of octets has a property, or none has it
pub decided_end : (P : List ℕ → Type 0) → ((octets : List ℕ) → Decided (P octets)) → (octets : List ℕ) → ((back : List ℕ) × P back) ⊎ ((front back : List ℕ) → octets ≡ front ++ back → P back → ⊥)
decided_end P test [] = elim (test []) [ inl p ↦ inl ([], p) | inr never ↦ inr (λ front back e p. never (subst P (empty_back front back e) p)) ]
decided_end P test (x ∷ octets) = elim (test (x ∷ octets)) [
  | inl p ↦ inl (x ∷ octets, p)
  | inr never ↦ elim (decided_end P test octets) [ inl f ↦ inl f | inr none ↦ inr (no_back P x octets never none) ]
]
