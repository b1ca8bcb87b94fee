use Rattle.std.proofs.Common.{arith, []}
use Rattle.std.proofs.lemmas.Grind.{common_steps}
use Rattle.certpath_c.proofs.naming.text_of.Goals as goal

pub returns-then-not-is_empty-clause-none : goal.returns-then-not-is_empty-clause-none
returns-then-not-is_empty-clause-none c = λ name spelled. let one = c.in-Ok.ensures.only name [] spelled in grind (arith, common_steps, one)

pub returns-in-Err-Error-clause-none : goal.returns-in-Err-Error-clause-none
returns-in-Err-Error-clause-none c = λ name spelled. rw c.in-Err-Error.field-0-is at (c.in-Err-Error.ensures.only name [] spelled)

pub returns-in-Err-Incomplete-clause-none : goal.returns-in-Err-Incomplete-clause-none
returns-in-Err-Incomplete-clause-none c = λ name spelled. rw c.in-Err-Incomplete.field-0-is at (c.in-Err-Incomplete.ensures.only name [] spelled)
