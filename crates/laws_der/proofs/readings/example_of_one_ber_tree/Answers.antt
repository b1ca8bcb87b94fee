use Rattle.std.proofs.Common.{refl, arith, inl}
use Rattle.ber_tree.proofs.Strict.{strict_object}
use Rattle.laws_der.specs.Worked.{list_tree}
use Rattle.laws_der.proofs.OfTrees.{list_is_object}
use Rattle.laws_der.proofs.readings.example_of_one_ber_tree.Goals as goal

pub returns : goal.returns
returns c =
    let is = strict_object list_tree 2 (list_is_object 2 (omega arith)) in
    (omega arith, is, inl is, refl)
