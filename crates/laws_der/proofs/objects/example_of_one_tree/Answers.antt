use Rattle.std.proofs.Common.{refl, arith}
use Rattle.laws_der.proofs.OfTrees.{list_is_object}
use Rattle.laws_der.proofs.objects.example_of_one_tree.Goals as goal

pub returns : goal.returns
returns c = (omega arith, list_is_object 2 (omega arith), list_is_object 50 (omega arith), refl, refl)
