-- Two booleans with their octets, written out by hand: they try the laws' definitions, not the code.
use Rattle.std.specs.Prelude.{ℕ, Bool, true, false, List, [], ◌∷◌, Result, Ok}
use Rattle.asn1_core.specs.declared.error.Error.{Error}
use Rattle.asn1_core.specs.declared.outcome.Err.{Err as Refusal}

abbrev pub false_octets : List ℕ
false_octets = 0x01 ∷ 0x01 ∷ 0x00 ∷ []

abbrev pub true_octets : List ℕ
true_octets = 0x01 ∷ 0x01 ∷ 0xff ∷ []

-- one after the other
abbrev pub two_booleans : List ℕ
two_booleans = 0x01 ∷ 0x01 ∷ 0x00 ∷ true_octets

-- what the calls give
abbrev pub two_answers : List (Result Bool (Refusal Error))
two_answers = Ok false ∷ Ok true ∷ []

-- in ascending order
abbrev pub two_encodings : List (List ℕ)
two_encodings = false_octets ∷ true_octets ∷ []
