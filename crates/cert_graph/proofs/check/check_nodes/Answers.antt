-- A yes is true, since an adequate answer is.
use Rattle.std.proofs.Common.{◌≡◌, ℕ, List, Bool, true, sym, subst}
use Rattle.std.specs.Prelude.{◌↔◌}
use Rattle.std.proofs.lemmas.Result.{IfOk-weaker}
use Rattle.cert_graph.specs.declared.answer.Answer.{Answer}
use Rattle.cert_graph.specs.Adequate.{rows_of, IsAdequatePath, IsAdequateNone, IsAdequate, IsTrueAnswer}
use Rattle.cert_graph.specs.Nodes.{graph_of}
use Rattle.cert_graph.proofs.True.{adequate_is_true}
use Rattle.cert_graph.proofs.check.check_nodes.Goals as goal

pub returns-in-Path-clause-exact : goal.returns-in-Path-clause-exact
returns-in-Path-clause-exact c =
    let g = graph_of c.args.nodes.now in
    let table = c.in-Path.table in
    IfOk-weaker c.is_adequate_path.result (λ (yes : Bool). (yes ≡ true) ↔ IsAdequatePath g c.args.target c.deref.result.now c.in-Path.anchor (rows_of table)) (λ (yes : Bool). (yes ≡ true) ↔ IsAdequate g c.args.target c.args.answer.now)
    (λ yes h. subst (λ (a : Answer). (yes ≡ true) ↔ IsAdequate g c.args.target a) (sym c.in-Path.is)
    (subst (λ (ps : List ℕ). (yes ≡ true) ↔ IsAdequatePath g c.args.target ps c.in-Path.anchor (rows_of table)) c.deref.ensures.value h)) c.is_adequate_path.ensures

pub returns-in-Path-clause-holds : goal.returns-in-Path-clause-holds
returns-in-Path-clause-holds c =
    let g = graph_of c.args.nodes.now in
    IfOk-weaker c.is_adequate_path.result (λ (yes : Bool). (yes ≡ true) ↔ IsAdequate g c.args.target c.args.answer.now) (λ (yes : Bool). yes ≡ true → IsTrueAnswer g c.args.target c.args.answer.now)
    (λ yes h t. adequate_is_true g c.args.target c.args.answer.now (h.0 t)) (returns-in-Path-clause-exact c)

pub returns-in-NoPath-clause-exact : goal.returns-in-NoPath-clause-exact
returns-in-NoPath-clause-exact c =
    let g = graph_of c.args.nodes.now in
    IfOk-weaker c.is_adequate_none.result (λ (yes : Bool). (yes ≡ true) ↔ IsAdequateNone g c.args.target (rows_of c.in-NoPath.table)) (λ (yes : Bool). (yes ≡ true) ↔ IsAdequate g c.args.target c.args.answer.now)
    (λ yes h. subst (λ (a : Answer). (yes ≡ true) ↔ IsAdequate g c.args.target a) (sym c.in-NoPath.is) h) c.is_adequate_none.ensures

pub returns-in-NoPath-clause-holds : goal.returns-in-NoPath-clause-holds
returns-in-NoPath-clause-holds c =
    let g = graph_of c.args.nodes.now in
    IfOk-weaker c.is_adequate_none.result (λ (yes : Bool). (yes ≡ true) ↔ IsAdequate g c.args.target c.args.answer.now) (λ (yes : Bool). yes ≡ true → IsTrueAnswer g c.args.target c.args.answer.now)
    (λ yes h t. adequate_is_true g c.args.target c.args.answer.now (h.0 t)) (returns-in-NoPath-clause-exact c)
