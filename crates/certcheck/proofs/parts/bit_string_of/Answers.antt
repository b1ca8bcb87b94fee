use Rattle.std.proofs.Common.{rules, ◌≡◌, true, arith}
use Rattle.cert_model.specs.View.{any_view}
use Rattle.certcheck.specs.Windows.{is_universal}
use Rattle.certcheck.proofs.ElementTrees.{bits_read}
use Rattle.certcheck.proofs.parts.bit_string_of.Goals as goal

pub returns-in-len1-up : goal.returns-in-len1-up
returns-in-len1-up c =
    let test : is_universal 3 (any_view c.args.object.now) ≡ true = search rules in
    bits_read (any_view c.args.object.now) test (omega arith)
