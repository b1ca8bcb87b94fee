-- The items that are refused, as a set.
use Rattle.std.specs.Borrow.{Bor}
use Rattle.std.specs.Prelude.{◌≡◌, ◌⊎◌, ℕ, true, IsTrue, IsSomeAnd, List, Contains}
use Rattle.std.specs.Ordering.{nat_cmp}
use Rattle.std.specs.Cmp.Lexicographic.{slice_cmp}
use Rattle.std.specs.BTreeSet as sorted
use Rattle.std.specs.BTreeSet.{BTreeSet}
use Rattle.cert_serving.specs.declared.permits.Permits.{Permits}
use Rattle.cert_purpose.specs.Purposes.{extended_key_usage}
use Rattle.cert_serving.specs.Serving.{subject_alt_name}
use Rattle.cert_serving.specs.Demanding.{Demanded, IsPermitted}

-- octets are in a set
abbrev pub IsIn : BTreeSet (Bor (List ℕ)) → List ℕ → Type 0
IsIn set octets = IsTrue (sorted.contains_by (λ k. slice_cmp nat_cmp octets k.now) set)

-- A set of refused items: those that don't meet the demands, and each item is decided.
pub record HasRefused (d : Demanded) (items : List (List ℕ)) (set : BTreeSet (Bor (List ℕ))) : Type 0 where
  pub refused : (octets : List ℕ) → IsIn set octets → Contains items octets × ¬ IsPermitted d octets
  pub others : (octets : List ℕ) → Contains items octets → IsPermitted d octets ⊎ IsIn set octets

-- all octets but those that are refused
abbrev pub are_permitted : Permits → List ℕ → Type 0
are_permitted p octets = IsIn p.refused octets → ⊥

-- what a permit processes
abbrev pub are_processed : Permits → List ℕ → List ℕ → Type 0
are_processed p octets identifier = ((p.has_purpose ≡ true) × (identifier ≡ extended_key_usage)) ⊎ (IsSomeAnd p.host_target (λ t. octets ≡ t.now) × (identifier ≡ subject_alt_name))
