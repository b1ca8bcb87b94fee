use Rattle.std.proofs.Common.{rules, refl, arith}
use Rattle.std.proofs.lemmas.Grind.{common_steps}
use Rattle.certpath_c.proofs.asked.civil_of.Goals as goal

pub returns-in-Ok-clause-is : goal.returns-in-Ok-clause-is
returns-in-Ok-clause-is c =
    let is = c.in-Ok.ensures.succeeds.0 refl in
    first_of (search (rules, is), grind (arith, common_steps, is))
