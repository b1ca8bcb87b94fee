use Rattle.std.proofs.Common.{take}
use Rattle.std.specs.Prelude.{Contains}
use Rattle.cert_graph.specs.Reach.{Takes}
use Rattle.cert_search.specs.Rising.{AreRaised, HaveRisen}
use Rattle.cert_search.proofs.rising.raise_to.Given as goal

abbrev pub invariant-loop-position : goal.invariant-loop-position
invariant-loop-position l = record {
  raised : AreRaised l.fn.row l.row (λ v c. Contains (take l.position-index l.positions) v × Takes l.reach c);
  risen : HaveRisen l.fn.row l.row l.fn.risen.items l.risen.items;
}
