use Rattle.std.proofs.Common.{◌≡◌, ◌∙◌, map, length, arith, sym, subst}
use Rattle.std.proofs.lemmas.List.{length-map}
use Rattle.cert_model.specs.View.{time_view}
use Rattle.cert_judge.specs.Items.{item_of}
use Rattle.cert_judge.specs.JudgedItems.{IsJudged}
use Rattle.cert_judge.proofs.Agreement.{judged_more, judged_all, mapped_default}
use Rattle.cert_judge.proofs.building.judge_items.Goals as goal

pub loop-item-preserved : goal.loop-item-preserved
loop-item-preserved c =
    let m = time_view c.args.moment.now in
    let xs = c.args.items.now in
    let k = c.loop-item.item-index in
    rw c.in_ok-push.ensures.items (judged_more m (map item_of xs) c.loop-item.judged.items k c.in_ok-judge_item.field-0 c.loop-item.invariant (λ x. subst (λ z. IsJudged m z c.in_ok-judge_item.field-0) (mapped_default item_of xs k c.item-item.result x c.item-item.is c.loop-item-test.true) c.in_ok-judge_item.ensures))

pub returns : goal.returns
returns c =
    let end : c.loop-item.item-index ≡ length c.args.items.now = omega arith in
    let long = length-map c.args.items.now item_of in
    judged_all (time_view c.args.moment.now) (map item_of c.args.items.now) c.loop-item.judged.items c.loop-item.item-index (end ∙ sym long) c.loop-item.invariant
