use Rattle.std.proofs.Common.{refl}
use Rattle.cert_model.specs.Examples.{authority_b, issued_by_b}
use Rattle.cert_judge.specs.ItemGraph.{KeyIdsAgree}
use Rattle.cert_judge.proofs.ExampleLists.{names_no_key}
use Rattle.laws_judge.proofs.OfReasons.{no_link_reason}
use Rattle.laws_judge.proofs.reasons_by.example_of_a_link_without_reasons_by.Goals as goal

pub returns-clause-item : goal.returns-clause-item
returns-clause-item c = (refl, no_link_reason (KeyIdsAgree issued_by_b authority_b) names_no_key)

pub returns-clause-anchor : goal.returns-clause-anchor
returns-clause-anchor c = (refl, no_link_reason (Unit {0}) tt)
