-- JudgingContext and certificates of examples: they try the definitions, not the code.
use Rattle.std.specs.Prelude.{ℕ, false, true, List, [], ◌∷◌}
use Rattle.cert_model.specs.Extended.{basic_constraints, name_constraints, authority_key_identifier, subject_key_identifier}
use Rattle.cert_model.specs.Examples.{authority_b}
use Rattle.cert_model.specs.Fields.{Certificate}
use Rattle.cert_judge.specs.Examples.{in_june, too_late, extended_by, extension, unconstrained, path_length_zero}
use Rattle.cert_judge.specs.Revoking.{JudgingContext}
use Rattle.cert_judge.specs.Vouching.{nothing}

-- basic constraints that come twice
abbrev pub constrained_twice : Certificate
constrained_twice = let e = extension basic_constraints false unconstrained in extended_by (e ∷ e ∷ [])

-- an authority with name constraints, which are not processed
abbrev pub authority_with_names : Certificate
authority_with_names = record authority_b { extensions = path_length_zero ∷ extension name_constraints false [] ∷ [] }

-- a second after the lists of the examples end
abbrev pub vouching_too_late : JudgingContext
vouching_too_late = record { moment = too_late; demand_lists = false; Vouches = λ key item. Unit {0}; Processes = nothing }

-- no key vouches for anything, and lists are demanded
abbrev pub vouching_for_none : JudgingContext
vouching_for_none = record { moment = in_june; demand_lists = true; Vouches = λ key item. ⊥; Processes = nothing }

-- a certificate that names its issuer's key by the octet 1, and one whose key has the identifier 2
abbrev pub key_identifier_one : List ℕ
key_identifier_one = 0x30 ∷ 0x03 ∷ 0x80 ∷ 0x01 ∷ 0x01 ∷ []

abbrev pub naming_key_one : Certificate
naming_key_one = extended_by (extension authority_key_identifier false key_identifier_one ∷ [])

abbrev pub having_key_two : Certificate
having_key_two = extended_by (extension subject_key_identifier false (0x04 ∷ 0x01 ∷ 0x02 ∷ []) ∷ [])
