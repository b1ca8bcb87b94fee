use Rattle.std.proofs.Common.{sym, arith}
use Rattle.der_parser.proofs.Contents.{content_short, content_missing}
use Rattle.der_parser.proofs.content.parse_der_content.Goals as goal

pub returns-then-i-size-clause-read : goal.returns-then-i-size-clause-read
returns-then-i-size-clause-read c =
    let a = c.args in
    let is = sym c.in-Definite.ensures in (
      content_short a.levels a.tag.0 a.header a.i.now c.in-Definite.size is c.if-i-size.true,
      (omega arith, content_missing a.levels a.tag.0 a.header a.i.now c.in-Definite.size is),
    )
