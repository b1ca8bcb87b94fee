-- Places chosen one after the other.
use Rattle.std.specs.Prelude.{◌↔◌, is_some}
use Rattle.std.proofs.Common.{◌≡◌, ◌∙◌, ap, sym, subst, refl, ℕ, ◌+◌, ◌<◌, List, [], ◌∷◌, ◌++◌, length, length-append, arith, get_or, inl, inr, Bool, true, false, Option, Some, None, option_map}
use Rattle.std.specs.List.{Contains}
use Rattle.std.specs.List.Sorted.{IsStrictlyIncreasing}
use Rattle.std.proofs.Math.ListN.{get_or-append}
use Rattle.std.proofs.Math.Seq.{get_or-append_seam}
use mathlib.Core.Bool.{beq}
use Rattle.std.proofs.lemmas.Bool.{cases_lt, false≢true}
use Rattle.std.proofs.lemmas.List.{get_or_default}
use Rattle.std.proofs.lemmas.List.Kept.{AllPairs-from_increasing}
use Rattle.std.proofs.lemmas.List.Elements.{Contains-get_or, Contains-append_left, Contains-push, Contains-push_cases}

-- a greater number at the end
pub push_ascends : (xs : List ℕ) (v : ℕ) → IsStrictlyIncreasing xs → ((u : ℕ) → Contains xs u → u < v) → IsStrictlyIncreasing (xs ++ v ∷ [])
push_ascends xs v up below k lt =
    let long = length-append xs (v ∷ []) in
    elim (cases_lt (k + 1) (length xs)) [
      | inl within ↦
          let first : k < length xs = omega arith in
          let one = get_or-append xs (v ∷ []) 0 k first in
          let two = get_or-append xs (v ∷ []) 0 (k + 1) within in
          let less = up k within in
          omega arith
      | inr past ↦
          let first : k < length xs = omega arith in
          let last : k + 1 ≡ length xs = omega arith in
          let one = get_or-append xs (v ∷ []) 0 k first in
          let two : get_or (xs ++ v ∷ []) (k + 1) 0 ≡ v = ap (λ i. get_or (xs ++ v ∷ []) i 0) last ∙ get_or-append_seam xs v [] 0 in
          let less = below (get_or xs k 0) (Contains-get_or xs k 0 first) in
          omega arith
    ]

-- of k places, in ascending order, those after a first one that have a property are chosen
pub record Sifted (first : ℕ) (C : ℕ → Type 0) (ps : List ℕ) (k : ℕ) (out : List ℕ) : Type 0 where
  pub ascends : IsStrictlyIncreasing out
  pub exact : (v : ℕ) → Contains out v ↔ ((i : ℕ) × (i < k) × (get_or ps i 0 ≡ first + v) × C v)

pub sifted_none : (first : ℕ) (C : ℕ → Type 0) (ps : List ℕ) → Sifted first C ps 0 []
sifted_none first C ps = record {
  ascends = λ k lt. absurd (omega arith);
  exact = λ v. (λ h. absurd (omega (arith, h.1)), λ h. absurd (omega (arith, h.1)));
}

pub sifted_more : (first : ℕ) (C : ℕ → Type 0) (ps : List ℕ) (k : ℕ) (out : List ℕ) (v : ℕ) → IsStrictlyIncreasing ps → k < length ps → Sifted first C ps k out → get_or ps k 0 ≡ first + v → C v → Sifted first C ps (k + 1) (out ++ v ∷ [])
sifted_more first C ps k out v up lt h at c = record {
  ascends = push_ascends out v h.ascends (λ u has.
      let old = (h.exact u).0 has in
      let less = AllPairs-from_increasing ps up old.0 k 0 old.1 lt in
      let was = old.2 in
      omega arith);
  exact = λ u. (
    λ has. elim (Contains-push_cases out v u has) [
      | inl there ↦ let old = (h.exact u).0 there in let below = old.1 in (old.0, omega arith, old.2, old.3)
      | inr e ↦ (k, omega arith, at ∙ ap (λ z. first + z) e, subst C e c)
    ],
    λ x. elim (cases_lt x.0 k) [
      | inl less ↦ Contains-append_left out (v ∷ []) u ((h.exact u).1 (x.0, less, x.2, x.3))
      | inr past ↦
          let below = x.1 in
          let same : x.0 ≡ k = omega arith in
          let one : get_or ps k 0 ≡ first + u = subst (λ i. get_or ps i 0 ≡ first + u) same x.2 in
          let is : v ≡ u = omega arith in
          subst (Contains (out ++ v ∷ [])) is (Contains-push out v)
    ],
  );
}

pub sifted_same : (first : ℕ) (C : ℕ → Type 0) (ps : List ℕ) (k : ℕ) (out : List ℕ) → Sifted first C ps k out → ((v : ℕ) → get_or ps k 0 ≡ first + v → C v → ⊥) → Sifted first C ps (k + 1) out
sifted_same first C ps k out h none = record {
  ascends = h.ascends;
  exact = λ u. (
    λ has. let old = (h.exact u).0 has in let below = old.1 in (old.0, omega arith, old.2, old.3),
    λ x. elim (cases_lt x.0 k) [
      | inl less ↦ (h.exact u).1 (x.0, less, x.2, x.3)
      | inr past ↦ let below = x.1 in let same : x.0 ≡ k = omega arith in absurd (none u (subst (λ i. get_or ps i 0 ≡ first + u) same x.2) x.3)
    ],
  );
}

pub met_at_last : (ps : List ℕ) (k v : ℕ) → k ≡ length ps → ((i : ℕ) × (i < k) × (get_or ps i 0 ≡ v)) ↔ Contains ps v
met_at_last ps k v end = (
  λ h. let below = h.1 in let lt : h.0 < length ps = omega arith in (h.0, lt, get_or_default ps h.0 v 0 lt ∙ h.2),
  λ h. let lt = h.1 in (h.0, omega arith, get_or_default ps h.0 0 v h.1 ∙ h.2),
)

pub sifted_all : (first : ℕ) (C : ℕ → Type 0) (ps : List ℕ) (k : ℕ) (out : List ℕ) → k ≡ length ps → Sifted first C ps k out → (v : ℕ) → Contains out v ↔ (Contains ps (first + v) × C v)
sifted_all first C ps k out end h v =
    let m = met_at_last ps k (first + v) end in (
      λ has. let x = (h.exact v).0 has in (m.0 (x.0, x.1, x.2), x.3),
      λ x. let y = m.1 x.0 in (h.exact v).1 (y.0, y.1, y.2, x.1),
    )

pub some_shown : {X Y : Type 0} (f : X → Y) (o : Option X) → is_some (option_map f o) ≡ is_some o
some_shown f None = refl
some_shown f (Some x) = refl

pub nothing_added : (k v : ℕ) → k ≡ 0 + v → k ≡ v
nothing_added k v e = omega arith

added_none : (v : ℕ) → 0 + v ≡ v
added_none v = omega arith

pub sifted_whole : (C : ℕ → Type 0) (ps : List ℕ) (k : ℕ) (out : List ℕ) → k ≡ length ps → Sifted 0 C ps k out → (v : ℕ) → Contains out v ↔ (Contains ps v × C v)
sifted_whole C ps k out end h v = subst (λ u. Contains out v ↔ (Contains ps u × C v)) (added_none v) (sifted_all 0 C ps k out end h v)

pub same_flag : (a b : Bool) → beq a b ≡ true → a ≡ b
same_flag true true e = refl
same_flag false false e = refl
same_flag true false e = absurd (false≢true e)
same_flag false true e = absurd (false≢true e)

pub other_flag : (a b : Bool) → beq a b ≡ false → a ≡ b → ⊥
other_flag true true e = λ s. false≢true (sym e)
other_flag false false e = λ s. false≢true (sym e)
other_flag true false e = λ s. false≢true (sym s)
other_flag false true e = λ s. false≢true s
