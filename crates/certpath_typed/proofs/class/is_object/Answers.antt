use Rattle.std.proofs.Common.{arith}
use Rattle.certpath_typed.proofs.class.is_object.Goals as goal

pub returns-clause-each : goal.returns-clause-each
returns-clause-each c = λ _ t o is. omega (arith, c.is_der_object_counted.ensures.each t o is)
