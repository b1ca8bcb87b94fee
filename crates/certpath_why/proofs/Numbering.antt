-- Equal rows of numbers have equal parts.
use Rattle.std.proofs.Common.{◌≡◌, ap, refl, ℕ, List, ◌∷◌, Option, Some, None}
use Rattle.certpath_why.specs.Kinds.{kind_numbers, named_numbers}

pub head_is : {X : Type 0} {x y : X} {xs ys : List X} → (x ∷ xs) ≡ (y ∷ ys) → x ≡ y
head_is e = cc

pub tail_is : {X : Type 0} {x y : X} {xs ys : List X} → (x ∷ xs) ≡ (y ∷ ys) → xs ≡ ys
tail_is e = cc

named_is : (a b : Option (List ℕ)) → named_numbers a ≡ named_numbers b → a ≡ b
named_is None None e = refl
named_is None (Some y) e = cc
named_is (Some x) None e = cc
named_is (Some x) (Some y) e = ap Some (tail_is e)

pub kind_parts : (f g s t r u : ℕ) (n m : Option (List ℕ)) → kind_numbers f s r n ≡ kind_numbers g t u m → (f ≡ g) × (s ≡ t) × (r ≡ u) × (n ≡ m)
kind_parts f g s t r u n m e =
    let after = tail_is e in
    let last = tail_is after in
    (head_is e, head_is after, head_is last, named_is n m (tail_is last))
