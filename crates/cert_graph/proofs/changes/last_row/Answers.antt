-- One row more.
use Rattle.std.proofs.Common.{◌≡◌, ◌∙◌, ap, List, length, replicate, Vec, Global}
use Rattle.std.proofs.lemmas.List.{take_all, with_items_is}
use Rattle.cert_graph.specs.declared.reach.Reach.{Reach}
use Rattle.cert_graph.specs.declared.reach.Reach.TheVariants.{No}
use Rattle.cert_graph.specs.declared.changes.Change.{Change}
use Rattle.cert_graph.specs.Adequate.{changed}
use Rattle.cert_graph.specs.Changes.{last_by}
use Rattle.cert_graph.proofs.Changing.{items_by, last_more}
use Rattle.cert_graph.proofs.changes.last_row.Goals as goal

pub loop-step-preserved : goal.loop-step-preserved
loop-step-preserved c =
    let none = replicate c.args.count No in
    let steps = c.args.steps.now in
    let i = c.loop-step.step-index in
    let size : length c.make.new.row ≡ c.loop-step.row.len = c.make.auto.row ∙ c.deref_mut.ensures.len in
    let e = with_items_is c.loop-step.row c.make.new.row size in
    let made : c.make.new.row ≡ changed c.loop-step.row.items c.step-item.result.items =
    c.make.ensures ∙ ap (λ (r : List Reach). changed r c.deref.result.now) c.deref_mut.ensures.value ∙ ap (λ (xs : List Change). changed c.loop-step.row.items xs) c.deref.ensures.value in
    e ∙ last_more none steps i c.step-item.result c.loop-step.row.items c.make.new.row c.loop-step-test.true c.step-item.is c.loop-step.invariant made

pub returns : goal.returns
returns c = c.loop-step.invariant ∙ ap (λ (xs : List (Vec Change Global)). last_by (replicate c.args.count No) (items_by xs)) (take_all c.loop-step.step-index c.args.steps.now c.loop-step-test.false)
