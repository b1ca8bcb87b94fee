-- One row more.
use Rattle.std.proofs.Common.{◌≡◌, ◌∙◌, ap, List, length, replicate, Vec, Global}
use Rattle.std.proofs.lemmas.List.{take_all, with_items_is}
use Rattle.cert_graph.specs.declared.reach.Reach.{Reach}
use Rattle.cert_graph.specs.declared.reach.Reach.TheVariants.{No}
use Rattle.cert_graph.specs.declared.changes.Change.{Change}
use Rattle.cert_graph.specs.Adequate.{changed, rows_by}
use Rattle.cert_graph.proofs.Changing.{items_by, rows_more, last_more}
use Rattle.cert_graph.proofs.changes.rows_of.Goals as goal

pub loop-step-preserved : goal.loop-step-preserved
loop-step-preserved c =
    let none = replicate c.args.count No in
    let steps = c.args.steps.now in
    let i = c.loop-step.step-index in
    let size : length c.make.new.row ≡ c.loop-step.row.len = c.make.auto.row ∙ c.deref_mut.ensures.len in
    let e = with_items_is c.loop-step.row c.make.new.row size in
    let made : c.make.new.row ≡ changed c.loop-step.row.items c.step-item.result.items =
    c.make.ensures ∙ ap (λ (r : List Reach). changed r c.deref.result.now) c.deref_mut.ensures.value ∙ ap (λ (xs : List Change). changed c.loop-step.row.items xs) c.deref.ensures.value in
    let last = last_more none steps i c.step-item.result c.loop-step.row.items c.make.new.row c.loop-step-test.true c.step-item.is c.loop-step.invariant.last made in
    record {
      rows = rows_more none steps i c.step-item.result c.loop-step.rows.items c.push.new.self.items c.in_ok-from_slice.field-0 c.loop-step.row.items c.loop-step-test.true c.step-item.is c.loop-step.invariant.rows c.loop-step.invariant.last
          c.in_ok-push.ensures.items (c.in_ok-from_slice.ensures.items ∙ c.deref-in-loop-step.ensures.value ∙ e ∙ made);
      last = e ∙ last;
    }

pub returns : goal.returns
returns c = c.loop-step.invariant.rows ∙ ap (λ (xs : List (Vec Change Global)). rows_by (replicate c.args.count No) (items_by xs)) (take_all c.loop-step.step-index c.args.steps.now c.loop-step-test.false)
