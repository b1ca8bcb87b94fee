use Rattle.std.proofs.Common.{◌-◌, ap, ◌∙◌, string_bytes}
use Rattle.fault_texts.specs.FaultLines.{most_lines}
use Rattle.fault_texts.proofs.FaultFacts.{all_pushed}
use Rattle.fault_texts.proofs.lines.push_faults.Goals as goal

pub returns : goal.returns
returns c =
    all_pushed c.args.items.now c.args.anchors.now c.args.target c.saturating_sub.result (string_bytes c.args.text.now) (string_bytes c.push_target.new.text) (string_bytes c.push_anchors.new.text) (string_bytes c.push_more.new.text)
    c.in_ok-push_target.ensures c.in_ok-push_anchors.ensures c.in_ok-push_more.ensures (c.saturating_sub.ensures ∙ ap (λ z. z - most_lines) c.count_others.ensures)
