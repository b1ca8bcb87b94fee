use Rattle.std.proofs.Common.{[]}
use Rattle.cert_model.specs.Octets.{key_octets}
use Rattle.cert_model.specs.Examples.{plain}
use Rattle.laws_judge.proofs.OfReasons.{list_reasons, reasons_among}
use Rattle.laws_judge.proofs.reasons_by.example_of_reasons_of_a_list_by.Goals as goal

pub returns-clause-key : goal.returns-clause-key
returns-clause-key c = list_reasons (key_octets plain.key)

pub returns-clause-keys : goal.returns-clause-keys
returns-clause-keys c = reasons_among [] (key_octets plain.key)
