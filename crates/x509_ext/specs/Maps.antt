-- Values by identifier, no identifier twice.
use Rattle.std.specs.Prelude.{◌≡◌, ◌≤◌, ◌⊎◌, ℕ, List, length, Option, Some, None, bytes_eq}
use Rattle.std.specs.BTreeMap.{BTreeMap, get}
use Rattle.std.specs.Cmp.Lexicographic.{slice_cmp}
use Rattle.std.specs.List.{filter}
use Rattle.std.specs.Ordering.{nat_cmp}
use Rattle.x509_core.specs.declared.error.X509Error.{X509Error}
use Rattle.x509_core.specs.declared.error.X509Error.TheVariants as errors

-- what a map by identifiers, given as their content octets, holds at one
abbrev pub held_at : {V : Type 0} → BTreeMap (List ℕ) V → List ℕ → Option V
held_at m id = get (slice_cmp nat_cmp) m id

-- what is there, else this
abbrev pub first_or : {V : Type 0} → Option V → V → V
first_or None v = v
first_or (Some w) v = w

-- those of a list that have an identifier
abbrev pub those_of : {A : Type 0} → (A → List ℕ) → List ℕ → List A → List A
those_of key id xs = filter (λ x. bytes_eq (key x) id) xs

-- no identifier is that of two
abbrev pub AreDistinct : {A : Type 0} → (A → List ℕ) → List A → Type 0
AreDistinct key xs = (id : List ℕ) → length (those_of key id xs) ≤ 1

-- some identifier is that of two or more
abbrev pub Repeats : {A : Type 0} → (A → List ℕ) → List A → Type 0
Repeats key xs = (id : List ℕ) × (2 ≤ length (those_of key id xs))

-- why there is no map of them: an identifier repeats, which is reported by the error `duplicate`;
-- else memory ran out
abbrev pub IsWhyNone : {A : Type 0} → X509Error → (A → List ℕ) → List A → X509Error → Type 0
IsWhyNone duplicate key xs e = ((e ≡ duplicate) × Repeats key xs) ⊎ (e ≡ errors.OutOfMemory)
