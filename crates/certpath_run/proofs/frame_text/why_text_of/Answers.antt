use Rattle.std.proofs.Common.{◌∙◌, ◌++◌, ap, arith, string_bytes}
use Rattle.certpath_run.specs.Report.{end_line}
use Rattle.certpath_run.proofs.FrameFacts.{why_item_fits, writes_fault, why_ends}
use Rattle.certpath_run.proofs.frame_text.why_text_of.Goals as goal

pub overflow_add-offset : goal.overflow_add-offset
overflow_add-offset c =
    let within = why_item_fits _ _ _ _ _ c.loop-k.invariant c.get-item.ensures in
    omega (arith, within, c.len-k-end.ensures.fits)

pub loop-k-preserved : goal.loop-k-preserved
loop-k-preserved c = writes_fault _ _ _ _ _ _ _ c.loop-k.invariant c.get-item.ensures c.in_ok-push_item.ensures c.in_ok-push_fault_of.ensures

pub returns : goal.returns
returns c =
    why_ends (string_bytes c.loop-k.text) _ c.args.items.now.items c.loop-k.k c.loop-k.offset c.args.items.now.end (omega (arith, c.loop-k-test.false, c.len-k-end.ensures.len)) c.loop-k.invariant
    (c.in_ok-push_end.ensures ∙ ap (λ e. string_bytes c.loop-k.text ++ end_line e) c.end.ensures)
