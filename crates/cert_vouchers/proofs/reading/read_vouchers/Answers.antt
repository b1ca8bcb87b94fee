use Rattle.std.proofs.Common.{[]}
use Rattle.cert_vouchers.proofs.Progress.{refused_answers, handed_on}
use Rattle.cert_vouchers.proofs.reading.read_vouchers.Goals as goal

pub returns-in_err-feed : goal.returns-in_err-feed
returns-in_err-feed c =
    let text = c.args.text.now in
    let e = c.in_err-feed.field-0.0 in
    handed_on text e c.from_residual.result (refused_answers text e (c.in_err-feed.ensures.refused [] c.new-reading.ensures)) c.from_residual.ensures.1
