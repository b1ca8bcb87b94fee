-- The target alone, the last row, or the first rows that lead the target on.
use Rattle.std.proofs.Common.{◌≡◌, ◌+◌, ◌-◌, ◌<◌, ◌≤◌, List, length, replicate, take, arith, sym, subst, inl, inr}
use Rattle.std.proofs.lemmas.List.{length-take-le}
use Rattle.std.proofs.lemmas.Result.{IfOk-weaker}
use Rattle.cert_graph.specs.declared.reach.Reach.{Reach}
use Rattle.cert_graph.specs.declared.reach.Reach.TheVariants.{No}
use Rattle.cert_graph.specs.Adequate.{row_of, rows_by}
use Rattle.cert_graph.specs.Inventory.{IsAdequateVerdict}
use Rattle.cert_graph.specs.Lookup.{IsLookup}
use Rattle.cert_graph.specs.Nodes.{graph_of}
use Rattle.cert_graph.proofs.Changing.{items_by, length-rows}
use Rattle.cert_graph.proofs.Looking.{lookup_take}
use Rattle.cert_search.specs.Inventory.{IsPathBy}
use Rattle.cert_search.specs.Rows.{IsRun, Opens}
use Rattle.cert_search.proofs.AllRows.{run_to, run_opens, path_shown, pathless_shown, not_open, not_open_last, rows_taken}
use Rattle.cert_search.proofs.verdicts.verdict_of.Goals as goal

pub returns-then-not-is_usable : goal.returns-then-not-is_usable
returns-then-not-is_usable c =
    let nodes = c.args.nodes.now in
    let rows = rows_by (replicate (length nodes.items.items) No) (items_by c.args.steps.now) in
    pathless_shown (graph_of nodes) c.args.target rows c.requires.rows (c.is_certificate.ensures.0 c.if-not-is_certificate.false)
    (inl (λ u. cc (c.if-not-is_usable.true, c.is_usable.ensures.1 u))) (λ o. cc (c.if-not-is_usable.true, c.is_usable.ensures.1 o.0))

pub returns-then-not-leads_on : goal.returns-then-not-leads_on
returns-then-not-leads_on c =
    let nodes = c.args.nodes.now in
    let none = replicate (length nodes.items.items) No in
    let rows = rows_by none (items_by c.args.steps.now) in
    let size : length rows ≡ length c.args.steps.now = length-rows none c.args.steps.now in
    let ends = c.requires.rows.ends in
    let within : length c.args.steps.now - 1 < length rows = omega arith in
    let last : length c.args.steps.now - 1 + 1 ≡ length rows = omega arith in
    pathless_shown (graph_of nodes) c.args.target rows c.requires.rows (c.is_certificate.ensures.0 c.if-not-is_certificate.false)
    (inr (c.is_usable.ensures.0 c.if-not-is_usable.false, c.in_default.ensures))
    (not_open_last (graph_of nodes) c.args.target rows (length c.args.steps.now - 1) last c.in_default.ensures
    (λ h. cc (c.if-not-leads_on.true, (c.leads_on.ensures nodes rows c.requires.lookup within).1 h)))

pub overflow_add-place : goal.overflow_add-place
overflow_add-place c =
    let nodes = c.args.nodes.now in
    let none = replicate (length nodes.items.items) No in
    let steps = c.args.steps.now in
    let rows = rows_by none (items_by steps) in
    let size : length rows ≡ length steps = length-rows none steps in
    let within = (c.in-Some-first_open.ensures nodes rows c.requires.lookup size).0.0 in
    let short : c.in-Some-first_open.place + 1 ≤ length steps = omega arith in
    omega arith

pub slice_bounds-walk-end : goal.slice_bounds-walk-end
slice_bounds-walk-end c =
    let nodes = c.args.nodes.now in
    let none = replicate (length nodes.items.items) No in
    let steps = c.args.steps.now in
    let rows = rows_by none (items_by steps) in
    let size : length rows ≡ length steps = length-rows none steps in
    let within = (c.in-Some-first_open.ensures nodes rows c.requires.lookup size).0.0 in
    let short : c.in-Some-first_open.place + 1 ≤ length steps = omega arith in
    sym (length-take-le (c.in-Some-first_open.place + 1) steps short)

pub walk-requires-clause-lookup : goal.walk-requires-clause-lookup
walk-requires-clause-lookup c =
    let nodes = c.args.nodes.now in
    let none = replicate (length nodes.items.items) No in
    let steps = c.args.steps.now in
    let n = c.in-Some-first_open.place + 1 in
    subst (λ (rs : List (List Reach)). IsLookup nodes rs c.args.lookup.now) (sym (rows_taken none steps n))
    (lookup_take nodes (rows_by none (items_by steps)) n c.args.lookup.now c.requires.lookup)

pub walk-requires-clause-run : goal.walk-requires-clause-run
walk-requires-clause-run c =
    let nodes = c.args.nodes.now in
    let none = replicate (length nodes.items.items) No in
    let steps = c.args.steps.now in
    let rows = rows_by none (items_by steps) in
    let k = c.in-Some-first_open.place in
    let size : length rows ≡ length steps = length-rows none steps in
    subst (IsRun (graph_of nodes) c.args.target) (sym (rows_taken none steps (k + 1)))
    (run_to (graph_of nodes) c.args.target rows k c.requires.rows c.in_default.ensures (c.in-Some-first_open.ensures nodes rows c.requires.lookup size))

pub walk-requires-clause-opened : goal.walk-requires-clause-opened
walk-requires-clause-opened c =
    let nodes = c.args.nodes.now in
    let none = replicate (length nodes.items.items) No in
    let steps = c.args.steps.now in
    let rows = rows_by none (items_by steps) in
    let k = c.in-Some-first_open.place in
    let size : length rows ≡ length steps = length-rows none steps in
    let first = c.in-Some-first_open.ensures nodes rows c.requires.lookup size in
    let within = first.0.0 in
    let short : k + 1 ≤ length steps = omega arith in (
      k,
      sym (length-take-le (k + 1) steps short),
      subst (λ (rs : List (List Reach)). Opens (graph_of nodes) c.args.target (row_of rs k)) (sym (rows_taken none steps (k + 1)))
          (run_opens (graph_of nodes) c.args.target rows k (c.is_usable.ensures.0 c.if-not-is_usable.false) first),
    )

pub returns-in-Some-first_open : goal.returns-in-Some-first_open
returns-in-Some-first_open c =
    let nodes = c.args.nodes.now in
    let g = graph_of nodes in
    let none = replicate (length nodes.items.items) No in
    let steps = c.args.steps.now in
    let rows = rows_by none (items_by steps) in
    let k = c.in-Some-first_open.place in
    let size : length rows ≡ length steps = length-rows none steps in
    let first = c.in-Some-first_open.ensures nodes rows c.requires.lookup size in
    let within = first.0.0 in
    let short : k + 1 ≤ length rows = omega arith in
    IfOk-weaker c.walk.result (IsPathBy g (rows_by none (items_by (take (k + 1) steps))) c.args.target) (IsAdequateVerdict g rows c.args.target)
    (λ v h. path_shown g c.args.target rows (k + 1) short v (subst (λ (rs : List (List Reach)). IsPathBy g rs c.args.target v) (rows_taken none steps (k + 1)) h)) c.walk.ensures

pub returns-in-None : goal.returns-in-None
returns-in-None c =
    let nodes = c.args.nodes.now in
    let g = graph_of nodes in
    let none = replicate (length nodes.items.items) No in
    let rows = rows_by none (items_by c.args.steps.now) in
    let size : length rows ≡ length c.args.steps.now = length-rows none c.args.steps.now in
    pathless_shown g c.args.target rows c.requires.rows (c.is_certificate.ensures.0 c.if-not-is_certificate.false)
    (inr (c.is_usable.ensures.0 c.if-not-is_usable.false, c.in_default.ensures))
    (not_open g c.args.target rows c.requires.rows c.in_default.ensures (c.in-None.ensures nodes rows c.requires.lookup size))
