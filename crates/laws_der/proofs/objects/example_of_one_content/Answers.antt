use Rattle.laws_der.proofs.OfTrees.{five_holds}
use Rattle.laws_der.proofs.objects.example_of_one_content.Goals as goal

pub returns : goal.returns
returns c = five_holds 1
