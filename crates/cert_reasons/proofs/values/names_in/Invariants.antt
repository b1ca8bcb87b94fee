use Rattle.std.proofs.Common.{length, map}
use Rattle.cert_serving.specs.GeneralNames.{IsGeneralName, general_name_octets}
use Rattle.cert_serving.specs.View.{general_name_view}
use Rattle.cert_reasons.proofs.Reading.{IsRead}
use Rattle.cert_reasons.proofs.values.names_in.Given as goal

abbrev pub invariant-loop-rest : goal.invariant-loop-rest
invariant-loop-rest l = IsRead general_name_octets IsGeneralName l.fn.content l.rest (map general_name_view l.names.items)

abbrev pub decreases-loop-rest : goal.decreases-loop-rest
decreases-loop-rest l = length l.rest
