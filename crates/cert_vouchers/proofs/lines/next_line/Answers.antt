use Rattle.cert_vouchers.proofs.LineFacts.{next_found}
use Rattle.cert_vouchers.proofs.lines.next_line.Goals as goal

pub returns-clause-found : goal.returns-clause-found
returns-clause-found c = next_found c.args.text.now c.in_ok-end.end c.in_ok-end.ensures.found c.in_ok-end.ensures.feed c.in_ok-end.ensures.first
