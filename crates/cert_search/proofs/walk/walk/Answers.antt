-- The walk, where the rows are looked up by their numbers.
use Rattle.std.proofs.Common.{◌≡◌, ℕ, ◌+◌, List, [], ◌∷◌, ◌++◌, ◌-◌, ◌<◌, Bool, not, cond, length, replicate, add-zero, ap, sym, ◌∙◌, refl, arith}
use Rattle.cert_graph.specs.declared.reach.Reach.TheVariants.{No}
use Rattle.cert_graph.specs.Adequate.{row_of, rows_by}
use Rattle.cert_graph.specs.Nodes.{graph_of}
use Rattle.cert_graph.proofs.Changing.{items_by, length-rows}
use Rattle.cert_graph.proofs.NodeFacts.{fit_is_usable}
use Rattle.cert_search.proofs.Walking.{walks_start, walks_there, walks_on, walks_end}
use Rattle.cert_search.proofs.walk.walk.Goals as goal

pub loop-left-init : goal.loop-left-init
loop-left-init c =
    let nodes = c.args.nodes.now in
    let none = replicate (length nodes.items.items) No in
    record {
      small = omega arith;
      walks = walks_start (graph_of nodes) c.args.target (rows_by none (items_by c.args.steps.now)) (length c.args.steps.now) c.push.new.self.items (length-rows none c.args.steps.now) c.requires.alone c.requires.opened (c.in_ok-push.ensures.items ∙ ap (λ (ps : List ℕ). ps ++ c.args.target ∷ []) c.in_ok-positions.ensures.items);
    }

pub unreachable-requires : goal.unreachable-requires
unreachable-requires c =
    let nodes = c.args.nodes.now in
    let none = replicate (length nodes.items.items) No in
    let rows = rows_by none (items_by c.args.steps.now) in
    let size : length rows ≡ length c.args.steps.now = length-rows none c.args.steps.now in
    let some : 0 < c.loop-left.left = c.loop-left-test.true in
    let within : c.loop-left.left - 1 < length rows = omega arith in
    walks_there (graph_of nodes) c.args.target rows c.loop-left.left c.loop-left.positions.items c.loop-left.last c.loop-left.count (row_of rows (c.loop-left.left - 1)) some refl
    c.loop-left.invariant.walks (c.in_default.ensures nodes rows c.requires.lookup within)

pub loop-left-preserved-then-not-is_self_issued : goal.loop-left-preserved-then-not-is_self_issued
loop-left-preserved-then-not-is_self_issued c =
    let nodes = c.args.nodes.now in
    let none = replicate (length nodes.items.items) No in
    let rows = rows_by none (items_by c.args.steps.now) in
    let size : length rows ≡ length c.args.steps.now = length-rows none c.args.steps.now in
    let some : 0 < c.loop-left.left = c.loop-left-test.true in
    let within : c.loop-left.left - 1 < length rows = omega arith in
    let counted = ap (λ (b : Bool). c.loop-left.count + cond (not b) 1 0) (sym c.if-not-is_self_issued.true ∙ c.is_self_issued.ensures) in record {
      small = omega arith;
      walks = walks_on (graph_of nodes) c.args.target rows c.requires.run c.loop-left.left c.loop-left.positions.items c.push-in-loop-left.new.self.items
          c.loop-left.last c.loop-left.count c.in-Some.next (c.loop-left.count + 1) (row_of rows (c.loop-left.left - 1)) some refl c.loop-left.invariant.walks c.in_ok-push-2.ensures.items (c.in-Some.ensures nodes rows c.requires.lookup within) counted;
    }

pub loop-left-preserved : goal.loop-left-preserved
loop-left-preserved c =
    let nodes = c.args.nodes.now in
    let none = replicate (length nodes.items.items) No in
    let rows = rows_by none (items_by c.args.steps.now) in
    let size : length rows ≡ length c.args.steps.now = length-rows none c.args.steps.now in
    let some : 0 < c.loop-left.left = c.loop-left-test.true in
    let within : c.loop-left.left - 1 < length rows = omega arith in
    let counted = sym (add-zero c.loop-left.count) ∙ ap (λ (b : Bool). c.loop-left.count + cond (not b) 1 0) (sym c.if-not-is_self_issued.false ∙ c.is_self_issued.ensures) in record {
      small = omega arith;
      walks = walks_on (graph_of nodes) c.args.target rows c.requires.run c.loop-left.left c.loop-left.positions.items c.push-in-loop-left.new.self.items
          c.loop-left.last c.loop-left.count c.in-Some.next c.loop-left.count (row_of rows (c.loop-left.left - 1)) some refl c.loop-left.invariant.walks c.in_ok-push-2.ensures.items (c.in-Some.ensures nodes rows c.requires.lookup within) counted;
    }

pub returns : goal.returns
returns c =
    let nodes = c.args.nodes.now in
    let rows = rows_by (replicate (length nodes.items.items) No) (items_by c.args.steps.now) in
    let none : c.loop-left.left ≡ 0 = omega (arith, c.loop-left-test.false) in
    walks_end (graph_of nodes) (fit_is_usable nodes) c.args.target rows c.requires.run c.requires.alone c.loop-left.left c.loop-left.positions.items
    c.loop-left.last c.loop-left.count c.in-Some-least_anchor.anchor none c.loop-left.invariant.walks c.in-Some-least_anchor.ensures
