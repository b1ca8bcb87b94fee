use Rattle.cert_graph.proofs.Sifted.{Sifted}
use Rattle.cert_judge.specs.Rows.{VouchesAt}
use Rattle.cert_judge.proofs.vouch.Vouch.vouched_by.Given as goal

abbrev pub invariant-loop-place : goal.invariant-loop-place
invariant-loop-place g l = Sifted 0 (VouchesAt ((g.Self.Vouch.vouches_for l.self).Vouches) l.items l.key) l.chosen l.place-index l.row.items
