-- The number and the width of the rows, that they are a table, and the path by them.
use Rattle.std.proofs.Common.{◌≡◌, ℕ, ◌+◌, ◌<◌, List, [], length, replicate, true, ap, sym, subst, arith}
use Rattle.std.specs.Prelude.{◌↔◌}
use Rattle.std.proofs.lemmas.List.{length-replicate}
use Rattle.cert_graph.specs.declared.reach.Reach.{Reach}
use Rattle.cert_graph.specs.declared.reach.Reach.TheVariants.{No}
use Rattle.cert_graph.specs.Adequate.{row_of, IsAdequatePath, rows_by}
use Rattle.cert_graph.specs.Nodes.{graph_of}
use Rattle.cert_graph.proofs.Changing.{items_by, length-rows}
use Rattle.cert_graph.proofs.RowByRow.{rows_in, row_of_no, width_by, some_steps, none_there, no_steps}
use Rattle.cert_graph.proofs.TableFacts.{refuted}
use Rattle.cert_graph.proofs.check.is_path_by.Goals as goal
use Rattle.cert_graph.proofs.check.is_path_by.Goals.{else-not-is_empty-via-then-not-is_empty+else-width-len, else-not-is_empty-via-else-not-is_empty}

pub returns-then-positions-steps : goal.returns-then-positions-steps
returns-then-positions-steps c = refuted (λ h.
    let size = length-rows (replicate c.args.width No) c.args.steps.now in
    let count : length (rows_by (replicate c.args.width No) (items_by c.args.steps.now)) + 1 ≡ length c.args.positions.now = h.count in
    let same : length c.args.positions.now ≡ length c.args.steps.now + 1 = omega (arith, size, count) in
    c.if-positions-steps.true same)

pub returns-then-width-len : goal.returns-then-width-len
returns-then-width-len c = refuted (λ h.
    let none = replicate c.args.width No in
    let steps = c.args.steps.now in
    let size = length-rows none steps in
    let some : 0 < length steps = some_steps steps c.is_empty.result c.is_empty.ensures c.if-not-is_empty.true in
    let there : 0 < length (rows_by none (items_by steps)) = omega arith in
    let wide = width_by none (items_by steps) 0 there in
    let own = length-replicate c.args.width No in
    let whole : length (row_of (rows_by none (items_by steps)) 0) ≡ length c.args.nodes.now.items.items = h.whole 0 [] there in
    let same : c.args.width ≡ c.len.result = omega arith in
    c.if-width-len.true same)

pub returns : goal.returns
returns c =
    let nodes = c.args.nodes.now in
    let steps = c.args.steps.now in
    let w = c.args.width in
    let size = length-rows (row_of_no nodes) steps in
    let same : rows_by (replicate w No) (items_by steps) ≡ rows_in nodes steps = elim c.else-not-is_empty.branch [
      | else-not-is_empty-via-then-not-is_empty+else-width-len x ↦
          let n = length nodes.items.items in
          let e : w ≡ n = omega arith in
          ap (λ (m : ℕ). rows_by (replicate m No) (items_by steps)) e
      | else-not-is_empty-via-else-not-is_empty x ↦
          let none : length steps ≡ 0 = none_there steps c.is_empty.result c.is_empty.ensures x.if-not-is_empty.false in
          no_steps w (length nodes.items.items) steps none
    ] in
    let long : length (rows_in nodes steps) + 1 ≡ length c.args.positions.now = omega (arith, size, c.if-positions-steps.false) in
    subst (λ (rows : List (List Reach)). (c.is_shown_path.result ≡ true) ↔ IsAdequatePath (graph_of nodes) c.args.target c.args.positions.now c.args.anchor rows) (sym same)
    (c.is_shown_path.ensures (rows_in nodes steps) c.in_ok-lookup.ensures (c.in_ok-is_table.ensures.0 c.if-not-branch.false) long)
