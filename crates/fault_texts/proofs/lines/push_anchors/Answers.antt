use Rattle.std.proofs.Common.{string_bytes}
use Rattle.fault_texts.proofs.FaultFacts.{anchors_begin, anchor_next, anchors_end}
use Rattle.fault_texts.proofs.lines.push_anchors.Goals as goal

pub loop-k-init : goal.loop-k-init
loop-k-init c = anchors_begin c.args.anchors.now (string_bytes c.args.text.now)

pub loop-k-preserved : goal.loop-k-preserved
loop-k-preserved c =
    let item = c.index-anchors-k.result in
    anchor_next c.args.anchors.now c.loop-k.k c.loop-k.left c.in_ok-left.left item item (string_bytes c.args.text.now) (string_bytes c.loop-k.text) _ c.loop-k-test.true c.index-anchors-k.is c.loop-k.invariant c.in_ok-left.ensures

pub returns : goal.returns
returns c = anchors_end c.args.anchors.now c.loop-k.k c.loop-k.left (string_bytes c.args.text.now) (string_bytes c.loop-k.text) c.loop-k-test.false c.loop-k.invariant
