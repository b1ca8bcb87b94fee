use Rattle.std.proofs.Common.{ℕ, take}
use Rattle.std.specs.Prelude.{◌↔◌}
use Rattle.cert_graph.specs.Reach.{Takes}
use Rattle.cert_graph.specs.Groups.{IsOffered}
use Rattle.cert_search.proofs.offers.offer_of.Given as goal

abbrev pub invariant-loop-w : goal.invariant-loop-w
invariant-loop-w l = (c : ℕ) → Takes l.best c ↔ IsOffered l.nodes l.row (take l.w-index l.w-items) c
