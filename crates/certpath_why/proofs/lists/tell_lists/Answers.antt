use Rattle.std.proofs.Common.{◌≡◌, refl, []}
use Rattle.cert_judge.specs.declared.items.ReadItem.{ReadItem}
use Rattle.cert_reasons.proofs.Marks.{there_at}
use Rattle.certpath_why.specs.Question.{anchors_in, items_in, rules_in}
use Rattle.certpath_why.specs.Why.{TellsItemAt}
use Rattle.certpath_why.proofs.Texts.{texts_none}
use Rattle.certpath_why.proofs.Telling.{items_more, items_all}
use Rattle.certpath_why.proofs.lists.tell_lists.Goals as goal

pub tell_item-requires-clause-at : goal.tell_item-requires-clause-at
tell_item-requires-clause-at g c =
    let x = c.item-item.result in
    (there_at c.args.question.now.found.now.items.now c.loop-place.place x c.loop-place-test.true c.item-item.is (λ (y : ReadItem). y ≡ x)).0 refl

pub loop-place-init : goal.loop-place-init
loop-place-init g c = texts_none (TellsItemAt (rules_in g.V.Vouch c.args.question.now) (items_in c.args.question.now) (anchors_in c.args.question.now)) [] _

pub loop-place-preserved : goal.loop-place-preserved
loop-place-preserved g c =
    items_more (rules_in g.V.Vouch c.args.question.now) c.args.question.now.found.now.items.now (anchors_in c.args.question.now) c.loop-place.place c.item-item.result _ _ _
    c.loop-place-test.true c.item-item.is c.loop-place.invariant c.in_ok-tell_item.ensures

pub returns : goal.returns
returns g c = items_all (TellsItemAt (rules_in g.V.Vouch c.args.question.now) (items_in c.args.question.now) (anchors_in c.args.question.now)) c.args.question.now.found.now.items.now c.loop-place.place _ _ c.loop-place-test.false c.loop-place.auto.place-end c.loop-place.invariant
