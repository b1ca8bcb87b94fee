use Rattle.cert_search.proofs.Handing.{SoBest}
use Rattle.cert_search.proofs.rising.raise_all_bests.Given as goal

abbrev pub invariant-loop-place : goal.invariant-loop-place
invariant-loop-place l = SoBest l.nodes l.row l.fn.bests l.bests l.place l.groups.items
