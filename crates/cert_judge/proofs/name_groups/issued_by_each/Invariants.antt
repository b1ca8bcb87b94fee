use Rattle.cert_judge.proofs.Listed.{lists_of}
use Rattle.cert_judge.proofs.Vouched.{IssuedRowsUpTo}
use Rattle.cert_judge.proofs.name_groups.issued_by_each.Given as goal

abbrev pub invariant-loop-number : goal.invariant-loop-number
invariant-loop-number g l = IssuedRowsUpTo (g.V.Vouch.vouches_for l.fn.vouch).Vouches l.demand_lists l.items l.firsts l.keys l.number (lists_of l.rows.items)
