use Rattle.std.proofs.Common.{ap, ◌∙◌}
use Rattle.cert_judge.specs.Items.{item_of}
use Rattle.cert_judge.specs.declared.items.ReadItem.{ReadItem}
use Rattle.fault_texts.specs.FaultLines.{one_other}
use Rattle.fault_texts.proofs.FaultFacts.{one_counted, all_counted}
use Rattle.fault_texts.proofs.lines.count_others.Goals as goal

pub loop-item-preserved : goal.loop-item-preserved
loop-item-preserved c =
    let more = c.others_in-count in
    one_counted c.args.items.now c.loop-item.item-index c.loop-item.count more.result c.item-item.result c.loop-item-test.true c.loop-item.invariant (more.ensures.one ∙ ap (λ (x : ReadItem). one_other (item_of x).class) c.item-item.is) more.ensures.small

pub returns : goal.returns
returns c = all_counted c.args.items.now c.loop-item.item-index c.loop-item.count c.loop-item-test.false c.loop-item.invariant
