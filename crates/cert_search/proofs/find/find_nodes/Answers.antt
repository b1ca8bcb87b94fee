use Rattle.std.proofs.Common.{ℕ, subst, inl, inr}
use Rattle.std.specs.Prelude.{◌⊎◌}
use Rattle.std.proofs.lemmas.Result.{IfOk-weaker}
use Rattle.cert_graph.specs.declared.answer.Answer.TheVariants.{NoPath}
use Rattle.cert_graph.specs.declared.answer.Table.TheVariants.{Row}
use Rattle.cert_graph.specs.Adequate.{IsAdequate, IsTrueAnswer}
use Rattle.cert_graph.specs.Nodes.{graph_of}
use Rattle.cert_graph.proofs.True.{adequate_is_true}
use Rattle.cert_graph.proofs.NodeFacts.{fit_is_usable}
use Rattle.cert_search.specs.Exact.{IsShort}
use Rattle.cert_search.specs.Found.{IsFound, IsAlone}
use Rattle.cert_search.proofs.Answering.{alone_adequate, none_adequate, one_row_exact, adequate_short}
use Rattle.cert_search.proofs.find.find_nodes.Goals as goal
use Rattle.cert_search.proofs.find.find_nodes.Goals.{then-is_usable+in_default, else-is_usable}

pub returns-in-Some-clause-adequate : goal.returns-in-Some-clause-adequate
returns-in-Some-clause-adequate c =
    IfOk-weaker c.alone.result (IsAlone c.args.target c.in-Some.anchor) (IsAdequate (graph_of c.args.nodes.now) c.args.target)
    (alone_adequate (graph_of c.args.nodes.now) (fit_is_usable c.args.nodes.now) c.args.target c.in-Some.anchor (c.is_usable.ensures.0 c.if-is_usable.true) c.in-Some.ensures) c.alone.ensures

pub returns-in-Some-clause-holds : goal.returns-in-Some-clause-holds
returns-in-Some-clause-holds c =
    IfOk-weaker c.alone.result (IsAdequate (graph_of c.args.nodes.now) c.args.target) (IsTrueAnswer (graph_of c.args.nodes.now) c.args.target)
    (adequate_is_true (graph_of c.args.nodes.now) c.args.target) (returns-in-Some-clause-adequate c)

pub returns-in-Opening-clause-holds : goal.returns-in-Opening-clause-holds
returns-in-Opening-clause-holds c =
    IfOk-weaker c.first_path.result (IsAdequate (graph_of c.args.nodes.now) c.args.target) (IsTrueAnswer (graph_of c.args.nodes.now) c.args.target)
    (adequate_is_true (graph_of c.args.nodes.now) c.args.target) c.first_path.ensures.adequate

pub returns-in-Opening-clause-short : goal.returns-in-Opening-clause-short
returns-in-Opening-clause-short c =
    IfOk-weaker c.first_path.result (IsAdequate (graph_of c.args.nodes.now) c.args.target) (IsShort (graph_of c.args.nodes.now))
    (adequate_short c.args.nodes.now c.args.target) c.first_path.ensures.adequate

pub returns-in-Standing-clause-adequate : goal.returns-in-Standing-clause-adequate
returns-in-Standing-clause-adequate c =
    let found = subst (IsFound (graph_of c.args.nodes.now) c.args.target) c.in-Standing.is c.in_ok-steps.ensures in
    let alone : ((graph_of c.args.nodes.now).Usable c.args.target → ⊥) ⊎ ((graph_of c.args.nodes.now).Usable c.args.target × ((b : ℕ) → (graph_of c.args.nodes.now).AnchorEdge c.args.target b → ⊥)) =
    elim c.if-is_usable.branch [
      | then-is_usable+in_default w ↦ inr (c.is_usable.ensures.0 w.if-is_usable.true, w.in_default.ensures)
      | else-is_usable w ↦ inl (λ u. cc (w.if-is_usable.false, c.is_usable.ensures.1 u))
    ] in
    none_adequate (graph_of c.args.nodes.now) c.args.target c.in-Standing.row.items (c.is_certificate.ensures.0 c.if-not-is_certificate.false) found.0 found.1 found.3 alone

pub returns-in-Standing-clause-holds : goal.returns-in-Standing-clause-holds
returns-in-Standing-clause-holds c =
    adequate_is_true (graph_of c.args.nodes.now) c.args.target (NoPath (Row c.in-Standing.row)) (returns-in-Standing-clause-adequate c)

pub returns-in-Standing-clause-exact : goal.returns-in-Standing-clause-exact
returns-in-Standing-clause-exact c =
    let found = subst (IsFound (graph_of c.args.nodes.now) c.args.target) c.in-Standing.is c.in_ok-steps.ensures in
    one_row_exact (graph_of c.args.nodes.now) found.2.0 c.in-Standing.row.items found.2.1 found.1
