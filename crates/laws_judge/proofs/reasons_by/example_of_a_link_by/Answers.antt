use Rattle.cert_judge.proofs.ExampleLists.{names_no_key}
use Rattle.laws_judge.proofs.OfReasons.{issued}
use Rattle.laws_judge.proofs.reasons_by.example_of_a_link_by.Goals as goal

pub returns : goal.returns
returns c = (issued, names_no_key)
