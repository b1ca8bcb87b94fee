use Rattle.std.proofs.Common.{◌∙◌, sym, ap}
use Rattle.der_tree.specs.Time.{ends_in_zero}
use Rattle.der_tree.proofs.Texts.{zero_last}
use Rattle.der_tree.proofs.times.ends_in_zero.Goals as goal

pub returns-in-Some : goal.returns-in-Some
returns-in-Some c = sym (ap ends_in_zero c.in-Some.ensures.cases.0 ∙ zero_last c.in-Some.field-0-1.now c.in-Some.digit.now)
