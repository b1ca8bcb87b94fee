use Rattle.std.proofs.Common.{[]}
use Rattle.cert_model.specs.Octets.{key_octets}
use Rattle.cert_model.specs.Examples.{authority_b, key}
use Rattle.laws_judge.proofs.OfReasons.{used, used_by_one}
use Rattle.laws_judge.proofs.reasons.example_of_a_used_list.Goals as goal

pub returns-clause-key : goal.returns-clause-key
returns-clause-key c = used (key_octets key)

pub returns-clause-keys : goal.returns-clause-keys
returns-clause-keys c = used_by_one [] (key_octets authority_b.key)
