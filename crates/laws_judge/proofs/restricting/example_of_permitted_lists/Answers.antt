use Rattle.laws_judge.proofs.OfPermits.{has_list, lists_permitted}
use Rattle.laws_judge.proofs.restricting.example_of_permitted_lists.Goals as goal

pub returns : goal.returns
returns c = (has_list, lists_permitted)
