use Rattle.std.proofs.Common.{[]}
use Rattle.cert_model.specs.Octets.{key_octets}
use Rattle.cert_model.specs.Examples.{key}
use Rattle.laws_judge.proofs.OfReasons.{reasons_among}
use Rattle.laws_judge.proofs.reasons.example_of_reasons_of_a_list.Goals as goal

pub returns : goal.returns
returns c = reasons_among [] (key_octets key)
