-- Something holds of one more element.
use Rattle.std.proofs.Common.{◌≡◌, ℕ, ◌+◌, ◌<◌, List, [], ◌∷◌, ◌++◌, length, take, get_or, arith, sym, ◌∙◌, subst, inl, inr}
use Rattle.std.specs.Prelude.{◌⊎◌, ◌↔◌, Any}
use Rattle.std.proofs.lemmas.Bool.{cases_lt}
use Rattle.std.proofs.lemmas.List.{take_more, get_or_push, get_or_append_left, length_push}
use Rattle.std.proofs.lemmas.List.Quantifiers.{Any-push}

pub any_push : {X : Type 0} (P : X → Type 0) (xs : List X) (y : X) → Any P (xs ++ y ∷ []) ↔ (Any P xs ⊎ P y)
any_push P xs y = (
  λ a. let longer = length_push xs y in
      let inside = a.2 in
      elim (cases_lt a.0 (length xs)) [
        | inl below ↦ inl (a.0, a.1, below, sym (get_or_append_left xs (y ∷ []) a.1 a.0 below) ∙ a.3, a.4)
        | inr above ↦ let last : length xs ≡ a.0 = omega arith in
            inr (subst P (sym (sym (get_or_push xs y a.1 a.0 last) ∙ a.3)) a.4)
      ],
  λ o. elim o [
    | inl a ↦ let longer = length_push xs y in
        let inside = a.2 in
        (a.0, a.1, omega arith, get_or_append_left xs (y ∷ []) a.1 a.0 inside ∙ a.3, a.4)
    | inr p ↦ Any-push P xs y p
  ],
)

pub any_more : {X : Type 0} (P : X → Type 0) (xs : List X) (i : ℕ) (x : X) → i < length xs → x ≡ get_or xs i x → Any P (take (i + 1) xs) ↔ (Any P (take i xs) ⊎ P x)
any_more P xs i x within is =
    let e : take (i + 1) xs ≡ take i xs ++ x ∷ [] = subst (λ (y : _). take (i + 1) xs ≡ take i xs ++ y ∷ []) (sym is) (take_more xs i x within) in
    rw e (any_push P (take i xs) x)
