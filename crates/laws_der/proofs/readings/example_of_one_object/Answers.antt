use Rattle.std.proofs.Common.{refl, arith, [], ◌∷◌}
use Rattle.der_parser.proofs.Strict.{object_is_read}
use Rattle.laws_der.specs.Worked.{list_tree}
use Rattle.laws_der.proofs.OfTrees.{list_is_object}
use Rattle.laws_der.proofs.readings.example_of_one_object.Goals as goal

pub returns : goal.returns
returns c = object_is_read list_tree (0xff ∷ []) (list_is_object 50 (omega arith)) refl
