-- What stands behind the last separator.
use Rattle.std.specs.Prelude.{if◌then◌else◌, ◌==◌, ◌||◌}
use Rattle.std.proofs.Common.{◌≡◌, ◌∙◌, ap, refl, ℕ, ◌+◌, ◌<◌, Bool, true, false, List, [], ◌∷◌, length, get_or, drop}
use Rattle.std.proofs.lemmas.List.{drop_more}
use Rattle.host_names.specs.HostNames.{has, last_part}

-- the last part, where `last` stands behind the last separator before the rest
abbrev pub settled : ℕ → List ℕ → List ℕ → List ℕ
settled separator rest last = if has separator rest then last_part separator rest else last

all_step : (a b : Bool) (p q r : List ℕ) → (if b then p else (if a then q else r)) ≡ (if a || b then (if b then p else (if a then q else r)) else r)
all_step true true p q r = refl
all_step true false p q r = refl
all_step false true p q r = refl
all_step false false p q r = refl

pub settled_all : (separator : ℕ) (xs : List ℕ) → last_part separator xs ≡ settled separator xs xs
settled_all separator [] = refl
settled_all separator (x ∷ xs) = all_step (x == separator) (has separator xs) (last_part separator xs) xs (x ∷ xs)

more_step : (a b : Bool) (p q r last : List ℕ) → (if a || b then (if b then p else (if a then q else r)) else last) ≡ (if b then p else (if a then q else last))
more_step true true p q r last = refl
more_step true false p q r last = refl
more_step false true p q r last = refl
more_step false false p q r last = refl

settled_more : (separator x : ℕ) (xs last : List ℕ) → settled separator (x ∷ xs) last ≡ settled separator xs (if x == separator then xs else last)
settled_more separator x xs last = more_step (x == separator) (has separator xs) (last_part separator xs) xs (x ∷ xs) last

pub settled_at : (separator : ℕ) (xs : List ℕ) (k : ℕ) (last : List ℕ) → k < length xs
    → settled separator (drop k xs) last ≡ settled separator (drop (k + 1) xs) (if get_or xs k 0 == separator then drop (k + 1) xs else last)
settled_at separator xs k last lt =
    ap (λ zs. settled separator zs last) (drop_more xs k 0 lt) ∙ settled_more separator (get_or xs k 0) (drop (k + 1) xs) last
