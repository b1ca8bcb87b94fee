use Rattle.std.proofs.Common.{take}
use Rattle.cert_search.proofs.Handing.{SoHanded}
use Rattle.cert_search.proofs.rising.hand_on.Given as goal

abbrev pub invariant-loop-place : goal.invariant-loop-place
invariant-loop-place l = SoHanded l.nodes l.bests l.fn.handed l.handed l.fn.offers l.offers (take l.place-index l.groups) l.risen.items
