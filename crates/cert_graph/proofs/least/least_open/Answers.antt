use Rattle.std.proofs.Common.{ℕ, sym, subst, List, below_more}
use Rattle.std.specs.Prelude.{Contains}
use Rattle.std.specs.List.Sorted.{IsStrictlyIncreasing}
use Rattle.cert_graph.specs.Nodes.{graph_of}
use Rattle.cert_graph.specs.Least.{IsOpen, IsLeast, IsLeastOption}
use Rattle.std.proofs.Common.{None, get_or}
use Rattle.cert_graph.proofs.Lowest.{least_first, none_of}
use Rattle.cert_graph.proofs.least.least_open.Goals as goal

pub returns-then-is_open : goal.returns-then-is_open
returns-then-is_open c =
    subst (λ (xs : List ℕ). IsLeast (λ w. Contains xs w × IsOpen (graph_of c.args.nodes.now) c.args.row.now c.args.count w) (get_or c.deref-w-items.result.now c.loop-w.w-index 0)) c.deref-w-items.ensures.value
    (least_first (IsOpen (graph_of c.args.nodes.now) c.args.row.now c.args.count) c.deref-w-items.result.now c.loop-w.w-index
    (subst IsStrictlyIncreasing (sym c.deref-w-items.ensures.value) c.args.group.now.members_ascend) c.loop-w-test.true (c.is_open.ensures.0 c.if-is_open.true) c.loop-w.invariant)

pub loop-w-preserved : goal.loop-w-preserved
loop-w-preserved c = below_more _ _ c.loop-w.invariant (λ o. cc (c.if-is_open.false, c.is_open.ensures.1 o))

pub returns : goal.returns
returns c =
    subst (λ (xs : List ℕ). IsLeastOption (λ w. Contains xs w × IsOpen (graph_of c.args.nodes.now) c.args.row.now c.args.count w) None) c.deref-w-items.ensures.value
    (none_of (IsOpen (graph_of c.args.nodes.now) c.args.row.now c.args.count) c.deref-w-items.result.now c.loop-w.w-index c.loop-w-test.false c.loop-w.invariant)
