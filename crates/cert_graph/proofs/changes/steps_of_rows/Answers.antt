-- One row more.
use Rattle.std.proofs.Common.{◌≡◌, ◌∙◌, ◌+◌, ◌++◌, ◌∷◌, [], ap, sym, List, length, map, replicate, take, Vec, Global}
use Rattle.std.proofs.lemmas.List.{take_all, take_more, map_push, length-replicate, with_items_is}
use Rattle.cert_graph.specs.declared.reach.Reach.{Reach}
use Rattle.cert_graph.specs.declared.reach.Reach.TheVariants.{No}
use Rattle.cert_graph.specs.declared.changes.Change.{Change}
use Rattle.cert_graph.specs.Adequate.{changed}
use Rattle.cert_graph.proofs.Changing.{items_by, last_grows, rows_grow}
use Rattle.cert_graph.proofs.RowByRow.{length-last}
use Rattle.cert_graph.proofs.changes.steps_of_rows.Goals as goal

pub changes_between-requires : goal.changes_between-requires
changes_between-requires c =
    let none = replicate c.args.width No in
    ap (λ (r : List Reach). length r) (c.deref.ensures.value ∙ c.loop-row.invariant.last) ∙ length-last none (items_by c.loop-row.steps.items) ∙ length-replicate c.args.width No
    ∙ sym (c.requires c.loop-row.row-index c.row-item.result c.loop-row-test.true) ∙ ap (λ (r : Vec Reach Global). length r.items) (sym c.row-item.is) ∙ ap (λ (r : List Reach). length r) (sym c.deref-in-loop-row.ensures.value)

pub loop-row-preserved : goal.loop-row-preserved
loop-row-preserved c =
    let none = replicate c.args.width No in
    let rows = c.args.rows.now in
    let i = c.loop-row.row-index in
    let x = c.row-item.result in
    let steps = c.loop-row.steps.items in
    let before = c.loop-row.before.items in
    let changes = c.in_ok-changes.changes in
    let made : changed before changes.items ≡ x.items =
    ap (λ (r : List Reach). changed r changes.items) (sym c.deref.ensures.value) ∙ c.in_ok-changes.ensures ∙ c.deref-in-loop-row.ensures.value in
    let size : length c.make.new.row ≡ c.loop-row.before.len = c.make.auto.row ∙ c.deref_mut.ensures.len in
    let e = with_items_is c.loop-row.before c.make.new.row size in
    let now : c.make.new.row ≡ x.items =
    c.make.ensures ∙ ap (λ (r : List Reach). changed r c.deref-in-loop-row-2.result.now) c.deref_mut.ensures.value ∙ ap (λ (xs : List Change). changed before xs) c.deref-in-loop-row-2.ensures.value ∙ made in
    let pushed = c.in_ok-push.ensures.items in
    let more : take (i + 1) rows ≡ take i rows ++ x ∷ [] = take_more rows i x c.loop-row-test.true ∙ ap (λ (r : Vec Reach Global). take i rows ++ r ∷ []) (sym c.row-item.is) in
    record {
      rows = rows_grow none steps c.push.new.self.items changes before x.items pushed c.loop-row.invariant.last made
          ∙ ap (λ (rs : List (List Reach)). rs ++ x.items ∷ []) c.loop-row.invariant.rows
          ∙ sym (ap (λ (rs : List (Vec Reach Global)). map (λ (r : Vec Reach Global). r.items) rs) more ∙ map_push (λ (r : Vec Reach Global). r.items) (take i rows) x);
      last = e ∙ now ∙ last_grows none steps c.push.new.self.items changes before x.items pushed c.loop-row.invariant.last made;
    }

pub returns : goal.returns
returns c = c.loop-row.invariant.rows ∙ ap (λ (rs : List (Vec Reach Global)). map (λ (r : Vec Reach Global). r.items) rs) (take_all c.loop-row.row-index c.args.rows.now c.loop-row-test.false)
