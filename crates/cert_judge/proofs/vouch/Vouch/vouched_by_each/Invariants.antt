use Rattle.cert_judge.proofs.RowFacts.{RowsUpTo}
use Rattle.cert_judge.proofs.vouch.Vouch.vouched_by_each.Given as goal

abbrev pub invariant-loop-key : goal.invariant-loop-key
invariant-loop-key g l = RowsUpTo ((g.Self.Vouch.vouches_for l.self).Vouches) l.keys l.items l.chosen l.key-index l.rows.items
