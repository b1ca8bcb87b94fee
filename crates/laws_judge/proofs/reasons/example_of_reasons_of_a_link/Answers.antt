use Rattle.cert_model.specs.Examples.{authority_b, issued_by_b}
use Rattle.cert_judge.specs.ItemGraph.{KeyIdsAgree}
use Rattle.cert_judge.proofs.ExampleLists.{names_no_key}
use Rattle.laws_judge.proofs.OfReasons.{link_reasons}
use Rattle.laws_judge.proofs.reasons.example_of_reasons_of_a_link.Goals as goal

pub returns : goal.returns
returns c = link_reasons (KeyIdsAgree issued_by_b authority_b) names_no_key
