use Rattle.std.proofs.Common.{◌∙◌, ap, arith, Ok}
use Rattle.asn1_values.specs.ReaderLaws.{fewer_refused, fewer_read, fewer_large}
use Rattle.asn1_values.proofs.integer.Integer.as_u16.Goals as goal

pub returns-in-Err-clause-exact : goal.returns-in-Err-clause-exact
returns-in-Err-clause-exact c = fewer_refused 16 c.args.self.now.content.now c.in-Err.e (omega arith) c.in-Err.ensures.exact

pub returns-in-Ok-try_from-clause-exact : goal.returns-in-Ok-try_from-clause-exact
returns-in-Ok-try_from-clause-exact c =
    ap Ok c.in-Ok-try_from.ensures.1 ∙ fewer_read 16 c.args.self.now.content.now c.in-Ok.number c.in-Ok.ensures.exact c.in-Ok-try_from.ensures.0

pub returns-in-Err-try_from-clause-exact : goal.returns-in-Err-try_from-clause-exact
returns-in-Err-try_from-clause-exact c =
    fewer_large 16 c.args.self.now.content.now c.in-Ok.number c.in-Ok.ensures.exact (omega (arith, c.in-Err-try_from.ensures))
