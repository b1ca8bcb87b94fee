-- The path length constraint of a certificate, taken from where it lies in the octets.
use Rattle.std.specs.Prelude.{ℕ, nat_lt, nat_eq, if◌then◌else◌, List, [], ◌∷◌, drop, length}
use Rattle.std.specs.Cmp.Lexicographic.{pointwise}
use Rattle.cert_graph.specs.declared.reach.Reach.{Reach}
use Rattle.cert_graph.specs.declared.reach.Reach.TheVariants.{UpTo, Any}
use Rattle.cert_model.specs.Fields.{Identifier, Extension, Certificate}
use Rattle.cert_model.specs.Extended.{basic_constraints}
use Rattle.cert_judge.specs.Constraints.{value_of}

-- the value of the first extension of an identifier, empty if there is none
abbrev pub first_value : Identifier → List Extension → List ℕ
first_value identifier [] = []
first_value identifier (e ∷ es) = if pointwise nat_eq e.identifier identifier then e.value else first_value identifier es

-- the constraint of a fit issuer: a number after 30 L 01 01 ff 02 k, or none (RFC 5280, 4.2.1.9)
abbrev pub path_limit : Certificate → Reach
path_limit c = let value = first_value basic_constraints c.extensions in if nat_lt 5 (length value) then UpTo (value_of (drop 7 value)) else Any
