-- Cases on tests, and lists that are not empty.
use Rattle.std.proofs.Common.{◌≡◌, ◌≢◌, refl, List, [], ◌∷◌, Bool, true, false, ◌&&◌, length, arith, Some, None, nat_lt, if◌then◌else◌}
use Rattle.std.proofs.lemmas.Bool.{lt-ltb}

pub chosen : {A : Type 0} (b : Bool) (x y : A) → (if b then Some x else None) ≡ Some y → (b ≡ true) × (x ≡ y)
chosen true x y e = (refl, cc)
chosen false x y e = absurd cc

pub not_chosen : {A : Type 0} (b : Bool) (x y : A) → (if b then None else Some x) ≡ Some y → (b ≡ false) × (x ≡ y)
not_chosen true x y e = cc
not_chosen false x y e = (refl, cc)

pub both_true : (a b : Bool) → (a && b) ≡ true → (a ≡ true) × (b ≡ true)
both_true true true e = (refl, refl)
both_true true false e = absurd cc
both_true false b e = absurd cc

pub some_if : {A : Type 0} (xs : List A) → nat_lt 0 (length xs) ≡ true → xs ≢ []
some_if [] e = absurd cc
some_if (x ∷ xs) e = λ is. cc

pub if_some : {A : Type 0} (xs : List A) → xs ≢ [] → nat_lt 0 (length xs) ≡ true
if_some [] p = absurd (p refl)
if_some (x ∷ xs) p = lt-ltb 0 (length (x ∷ xs)) (omega arith)
