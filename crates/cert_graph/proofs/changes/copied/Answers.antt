-- One step more.
use Rattle.std.proofs.Common.{◌∙◌, ◌++◌, ◌∷◌, [], ap, sym, take, List, Vec, Global}
use Rattle.std.proofs.lemmas.List.{take_all, map_push}
use Rattle.cert_graph.specs.declared.changes.Change.{Change}
use Rattle.cert_graph.proofs.Changing.{items_by, items_more}
use Rattle.cert_graph.proofs.changes.copied.Goals as goal

pub loop-step-preserved : goal.loop-step-preserved
loop-step-preserved c =
    let steps = c.args.steps.now in
    let i = c.loop-step.step-index in
    let new = c.in_ok-from_slice.field-0 in
    ap items_by c.in_ok-push.ensures.items ∙ map_push (λ (s : Vec Change Global). s.items) c.loop-step.copy.items new
    ∙ ap (λ (xs : List (List Change)). xs ++ new.items ∷ []) c.loop-step.invariant
    ∙ ap (λ (x : List Change). items_by (take i steps) ++ x ∷ []) (c.in_ok-from_slice.ensures.items ∙ c.deref.ensures.value)
    ∙ sym (items_more steps i c.step-item.result c.loop-step-test.true c.step-item.is)

pub returns : goal.returns
returns c = c.loop-step.invariant ∙ ap items_by (take_all c.loop-step.step-index c.args.steps.now c.loop-step-test.false)
