use Rattle.std.proofs.Common.{[], refl}
use Rattle.cert_model.specs.Octets.{key_octets}
use Rattle.cert_model.specs.Examples.{key}
use Rattle.laws_judge.proofs.OfReasons.{no_list_reason, no_reason_in_keys}
use Rattle.laws_judge.proofs.reasons.example_of_a_list_without_reasons.Goals as goal

pub returns-clause-key : goal.returns-clause-key
returns-clause-key c = (refl, refl, no_list_reason (key_octets key))

pub returns-clause-keys : goal.returns-clause-keys
returns-clause-keys c = (refl, refl, no_reason_in_keys [] (key_octets key))
