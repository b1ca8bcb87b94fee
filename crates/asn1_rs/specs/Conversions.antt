-- What a conversion of an element returns.
use Rattle.std.specs.Prelude.{◌≡◌, ℕ, ℤ, pos, List, Result}
use Rattle.asn1_any.specs.BerElements.{BerElement}
use Rattle.asn1_core.specs.declared.error.Error.{Error}
use Rattle.asn1_core.specs.declared.outcome.Err.{Err as Refusal}
use Rattle.asn1_traits.specs.IntegerLaws.{IntegerMeans}
use Rattle.asn1_traits.specs.Integers.{IsUnsigned, IsSigned}
use Rattle.asn1_traits.specs.Leaves.{LeafMeans}
use Rattle.asn1_traits.specs.Reads.{ReadsOf}

-- a value that the element means, or an error if it means none: never a failure, since no memory
-- is taken
abbrev pub Converts : {V : Type 0} → (BerElement → V → Type 0) → BerElement → Result V (Refusal Error) → Type 0
Converts means e r = ReadsOf (λ given error. error ≡ given) ⊥ means e r

-- a primitive element of the tag number, whose content means the value
abbrev pub ConvertsContent : {V : Type 0} → ℕ → (List ℕ → V → Type 0) → BerElement → Result V (Refusal Error) → Type 0
ConvertsContent number means e r = Converts (LeafMeans number means) e r

-- an INTEGER's number, below 2 to so many bits
abbrev pub ConvertsUnsigned : ℕ → BerElement → Result ℕ (Refusal Error) → Type 0
ConvertsUnsigned bits e r = ConvertsContent 2 (IntegerMeans (λ n. pos n) (IsUnsigned bits)) e r

-- an INTEGER's number, of so many bits with its sign
abbrev pub ConvertsSigned : ℕ → BerElement → Result ℤ (Refusal Error) → Type 0
ConvertsSigned bits e r = ConvertsContent 2 (IntegerMeans (λ n. n) (IsSigned bits)) e r
