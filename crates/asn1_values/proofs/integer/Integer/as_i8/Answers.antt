use Rattle.std.proofs.Common.{◌∙◌, sym, ap, arith, rules, Ok, FitsSigned, w8}
use Rattle.std.proofs.lemmas.Int.{to_z-of_z}
use Rattle.asn1_traits.specs.Wholes.{whole_of}
use Rattle.asn1_values.specs.ReaderLaws.{narrower_refused, narrower_read, narrower_large}
use Rattle.asn1_values.proofs.integer.Integer.as_i8.Goals as goal

pub returns-in-Err-clause-exact : goal.returns-in-Err-clause-exact
returns-in-Err-clause-exact c = narrower_refused 8 c.args.self.now.content.now c.in-Err.e (omega arith) (sym c.in-Err.ensures.exact)

pub returns-in-Ok-from_whole-clause-exact : goal.returns-in-Ok-from_whole-clause-exact
returns-in-Ok-from_whole-clause-exact c =
    let fits : FitsSigned w8 c.in-Ok-from_whole.number = search rules in
    simp to_z-of_z
    (ap Ok c.in-Ok-from_whole.ensures.0 ∙ narrower_read 8 c.args.self.now.content.now (whole_of c.in-Ok.whole) c.in-Ok.ensures.exact c.in-Ok-from_whole.ensures.1)

pub returns-in-Err-from_whole-clause-exact : goal.returns-in-Err-from_whole-clause-exact
returns-in-Err-from_whole-clause-exact c =
    narrower_large 8 c.args.self.now.content.now (whole_of c.in-Ok.whole) c.in-Ok.ensures.exact c.in-Err-from_whole.ensures.1
