-- Rows that are not one.
use Rattle.std.proofs.Common.{◌≡◌, length, replicate, ap, subst, arith}
use Rattle.cert_graph.specs.declared.answer.Table.{Table}
use Rattle.cert_graph.specs.declared.reach.Reach.TheVariants.{No}
use Rattle.cert_graph.specs.Adequate.{rows_of, IsAdequateNone, rows_by}
use Rattle.cert_graph.specs.Nodes.{graph_of}
use Rattle.cert_graph.proofs.Changing.{items_by, length-rows}
use Rattle.cert_graph.proofs.TableFacts.{refuted}
use Rattle.cert_graph.proofs.check.is_adequate_none.Goals as goal

pub returns-then-len-ne1 : goal.returns-then-len-ne1
returns-then-len-ne1 c = refuted (λ h.
    let none = replicate c.in-Rows.width No in
    let steps = c.in-Rows.steps.items in
    let size = length-rows none steps in
    let held : IsAdequateNone (graph_of c.args.nodes.now) c.args.target (rows_by none (items_by steps)) =
    subst (λ (t : Table). IsAdequateNone (graph_of c.args.nodes.now) c.args.target (rows_of t)) c.in-Rows.is h in
    let one : length (rows_by none (items_by steps)) ≡ 1 = ap length held.one in
    let same : c.len.result ≡ 1 = omega arith in
    c.if-len-ne1.true same)
