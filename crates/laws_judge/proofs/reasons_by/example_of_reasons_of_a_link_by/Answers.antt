use Rattle.cert_model.specs.Examples.{authority_b, issued_by_b}
use Rattle.cert_judge.specs.ItemGraph.{KeyIdsAgree}
use Rattle.cert_judge.proofs.ExampleLists.{names_no_key}
use Rattle.laws_judge.proofs.OfReasons.{link_reasons}
use Rattle.laws_judge.proofs.reasons_by.example_of_reasons_of_a_link_by.Goals as goal

pub returns-clause-item : goal.returns-clause-item
returns-clause-item c = link_reasons (KeyIdsAgree issued_by_b authority_b) names_no_key

pub returns-clause-anchor : goal.returns-clause-anchor
returns-clause-anchor c = link_reasons (Unit {0}) tt
