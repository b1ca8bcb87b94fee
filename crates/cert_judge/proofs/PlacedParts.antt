-- What follows parts that octets begin with.
use Rattle.std.specs.List.{concat, AllByRecursion}
use Rattle.std.proofs.Common.{◌≡◌, ◌≢◌, ◌∙◌, sym, [], ◌∷◌, ℕ, ◌-◌, List, ◌++◌, length, arith, append_assoc}
use Rattle.cert_model.specs.Parts.{IsPart}

pub after_none : (parts : List (List ℕ)) (rest s : List ℕ) (count : ℕ) → length parts ≡ count → count ≡ 0 → s ≡ concat parts ++ rest → s ≡ rest
after_none [] rest s count l z e = e
after_none (p ∷ ps) rest s count l z e = absurd (omega (arith, l, z))

-- the first of some parts, and the others
pub first_of_parts : (parts : List (List ℕ)) (rest s : List ℕ) (count : ℕ) → AllByRecursion IsPart parts → length parts ≡ count → count ≢ 0 → s ≡ concat parts ++ rest
    → (p : List ℕ) × (ps : List (List ℕ)) × IsPart p × AllByRecursion IsPart ps × (length ps ≡ count - 1) × (s ≡ p ++ (concat ps ++ rest))
first_of_parts [] rest s count all l n e = absurd (n (sym l))
first_of_parts (p ∷ ps) rest s count all l n e = (p, ps, all.0, all.1, omega (arith, l), e ∙ append_assoc p (concat ps) rest)
