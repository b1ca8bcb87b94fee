use Rattle.std.proofs.Common.{◌∙◌, sym, ap, ◌%◌, ◌==◌}
use Rattle.der_tree.specs.Table.{are_unused_zero}
use Rattle.der_tree.proofs.Texts.{unused_last, shifted}
use Rattle.cert_model.proofs.range.has_unused_zero.Goals as goal

pub returns-in-Some : goal.returns-in-Some
returns-in-Some c =
    let last = ap (are_unused_zero c.args.unused) c.in-Some.ensures.cases.0 ∙ unused_last c.args.unused c.in-Some.field-0-1.now c.in-Some.last.now in
    let size = shifted c.args.unused c.requires in
    ap (λ n. c.in-Some.last.now % n == 0) size ∙ sym last
