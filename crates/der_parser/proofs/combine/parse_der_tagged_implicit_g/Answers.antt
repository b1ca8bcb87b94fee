use Rattle.std.proofs.Common.{inr}
use Rattle.der_parser.proofs.Handing.{unwanted}
use Rattle.der_parser.proofs.combine.parse_der_tagged_implicit_g.Goals as goal

pub returns-in-Err : goal.returns-in-Err
returns-in-Err g c =
    let e = c.in-Err.ensures in
    inr (unwanted g.E.From.from_gives c.args.tag.0 c.args.i.now c.in-Err.refusal _ (λ p. e.only p.2 p.0 p.1 p.3 p.4) e.missing e.memory e.exact c.convert.ensures)
