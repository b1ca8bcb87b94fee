-- The first rows, or the last.
use Rattle.std.proofs.Common.{◌≡◌, ℕ, ◌+◌, ◌-◌, ◌<◌, ◌≤◌, ◌∙◌, List, [], ◌∷◌, length, take, replicate, Vec, Global, arith, ap, sym, subst}
use Rattle.std.proofs.lemmas.List.{take-map, length-take, length-take-le}
use Rattle.cert_graph.specs.declared.reach.Reach.{Reach}
use Rattle.cert_graph.specs.declared.reach.Reach.TheVariants.{No}
use Rattle.cert_graph.specs.declared.changes.Change.{Change}
use Rattle.cert_graph.specs.declared.inventory.Verdict.TheVariants.{FirstPath, Pathless}
use Rattle.cert_graph.specs.Adequate.{IsAdequatePath, IsAdequateNone, rows_by}
use Rattle.cert_graph.specs.Changes.{last_by}
use Rattle.cert_graph.specs.Inventory.{IsAdequateVerdict, shared_rows}
use Rattle.cert_graph.specs.Nodes.{graph_of}
use Rattle.cert_graph.proofs.Changing.{items_by, length-rows, rows_front}
use Rattle.cert_graph.proofs.RowByRow.{last_of_rows}
use Rattle.cert_graph.proofs.one_of_all.answer_of.Goals as goal

pub slice_bounds-copied-length : goal.slice_bounds-copied-length
slice_bounds-copied-length c =
    let g = graph_of c.args.nodes.now in
    let told = shared_rows g c.args.inventory.now in
    let within : c.args.target < length c.args.inventory.now.verdicts.items = omega arith in
    let h : IsAdequateVerdict g told c.args.target (FirstPath c.in-FirstPath.positions c.in-FirstPath.anchor) =
    subst (IsAdequateVerdict g told c.args.target) (sym c.index.ensures ∙ c.in-FirstPath.is) (c.requires.each c.args.target within c.index.result.now) in
    let n : ℕ = c.len-in-FirstPath.result - 1 in
    let size : c.len-in-FirstPath.result ≡ length c.in-FirstPath.positions.items = omega arith in
    let count : length (take (length c.in-FirstPath.positions.items - 1) told) + 1 ≡ length c.in-FirstPath.positions.items = h.count in
    let l = length-take (length c.in-FirstPath.positions.items - 1) told in
    let many : length told ≡ length c.args.inventory.now.steps.items = length-rows (replicate (length c.args.nodes.now.items.items) No) c.args.inventory.now.steps.items in
    let same = ap length c.deref.ensures.value in
    let fits : c.len-in-FirstPath.result - 1 ≤ length c.deref.result.now = omega arith in
    sym (length-take-le (c.len-in-FirstPath.result - 1) c.deref.result.now fits)

pub returns-in_ok-positions-in-FirstPath : goal.returns-in_ok-positions-in-FirstPath
returns-in_ok-positions-in-FirstPath c =
    let g = graph_of c.args.nodes.now in
    let told = shared_rows g c.args.inventory.now in
    let none = replicate (length c.args.nodes.now.items.items) No in
    let within : c.args.target < length c.args.inventory.now.verdicts.items = omega arith in
    let h : IsAdequateVerdict g told c.args.target (FirstPath c.in-FirstPath.positions c.in-FirstPath.anchor) =
    subst (IsAdequateVerdict g told c.args.target) (sym c.index.ensures ∙ c.in-FirstPath.is) (c.requires.each c.args.target within c.index.result.now) in
    let m = length c.in-FirstPath.positions.items - 1 in
    let size : c.len-in-FirstPath.result - 1 ≡ m = omega arith in
    let steps = c.args.inventory.now.steps.items in
    let same : rows_by none (items_by c.in_ok-steps-in-FirstPath.steps.items) ≡ take m told =
    ap (λ (xs : List (List Change)). rows_by none xs) c.in_ok-steps-in-FirstPath.ensures
    ∙ ap (λ (k : ℕ). rows_by none (items_by (take k c.deref.result.now))) size
    ∙ ap (λ (xs : List (Vec Change Global)). rows_by none (items_by (take m xs))) c.deref.ensures.value
    ∙ ap (λ (xs : List (List Change)). rows_by none xs) (sym (take-map (λ (s : Vec Change Global). s.items) m steps))
    ∙ rows_front none (items_by steps) m in
    let wide : c.len-in-FirstPath-2.result ≡ length c.args.nodes.now.items.items = omega arith in
    let ps : c.in_ok-positions-in-FirstPath.positions.items ≡ c.in-FirstPath.positions.items = c.in_ok-positions-in-FirstPath.ensures.items ∙ c.deref-in-FirstPath.ensures.value in
    subst (λ (n : ℕ). IsAdequatePath g c.args.target c.in_ok-positions-in-FirstPath.positions.items c.in-FirstPath.anchor (rows_by (replicate n No) (items_by c.in_ok-steps-in-FirstPath.steps.items))) (sym wide)
    (subst (λ (rs : List (List Reach)). IsAdequatePath g c.args.target c.in_ok-positions-in-FirstPath.positions.items c.in-FirstPath.anchor rs) (sym same)
    (subst (λ (qs : List ℕ). IsAdequatePath g c.args.target qs c.in-FirstPath.anchor (take m told)) (sym ps) h))

pub returns-in_ok-row-in-Pathless : goal.returns-in_ok-row-in-Pathless
returns-in_ok-row-in-Pathless c =
    let g = graph_of c.args.nodes.now in
    let told = shared_rows g c.args.inventory.now in
    let none = replicate (length c.args.nodes.now.items.items) No in
    let steps = c.args.inventory.now.steps.items in
    let within : c.args.target < length c.args.inventory.now.verdicts.items = omega arith in
    let h : IsAdequateVerdict g told c.args.target Pathless =
    subst (IsAdequateVerdict g told c.args.target) (sym c.index.ensures ∙ c.in-Pathless.is) (c.requires.each c.args.target within c.index.result.now) in
    let count : c.len-in-Pathless.result ≡ length c.args.nodes.now.items.items = omega arith in
    let row = c.in_ok-row-in-Pathless.row in
    let last : row.items ≡ last_by none (items_by steps) =
    c.in_ok-row-in-Pathless.ensures
    ∙ ap (λ (k : ℕ). last_by (replicate k No) (items_by c.deref-in-Pathless.result.now)) count
    ∙ ap (λ (xs : List (Vec Change Global)). last_by none (items_by xs)) c.deref-in-Pathless.ensures.value in
    subst (λ (rs : List (List Reach)). IsAdequateNone g c.args.target rs) (last_of_rows none (items_by steps) h.row h.one ∙ ap (λ (r : List Reach). r ∷ []) (sym last)) h
