-- A whole number as the code holds it, and what is returned if one doesn't fit.
use Rattle.std.specs.Prelude.{◌≡◌, ◌≢◌, ◌⊎◌, ◌^◌, ◌≤◌, ℤ, pos, negsuc, if◌then◌else◌, List, [], Result, Ok, Err, ℕ}
use Rattle.asn1_core.specs.declared.error.Error.{Error}
use Rattle.asn1_core.specs.declared.error.Error.TheVariants as errors
use Rattle.asn1_traits.specs.Integers.{twos_complement, SpellsInteger, size_of}
use Rattle.asn1_traits.specs.declared.integer.Whole.{Whole}

-- its size, or -1 less its size
abbrev pub whole_of : Whole → ℤ
whole_of w = if w.negative then negsuc w.size else pos w.size

-- the number that the octets spell, or that there are none or their number takes more than 128 bits
abbrev pub ReadsWhole : List ℕ → Result Whole Error → Type 0
ReadsWhole content (Ok w) = SpellsInteger content (whole_of w)
ReadsWhole content (Err e) = (e ≢ errors.OutOfMemory) × ((content ≡ []) ⊎ (2 ^ 128 ≤ size_of (twos_complement content)))

-- the integer type's value of that number, or that it has none
abbrev pub FitsWhole : {V : Type 0} → (V → ℤ) → (ℤ → Type 0) → ℤ → Result V Error → Type 0
FitsWhole number InRange z (Ok v) = (number v ≡ z) × InRange z
FitsWhole number InRange z (Err e) = (e ≢ errors.OutOfMemory) × (InRange z → ⊥)
