use Rattle.std.proofs.Common.{◌≡◌, ◌++◌, subst, map, None, string_bytes}
use Rattle.cert_judge.specs.Items.{rules_by, item_of}
use Rattle.certpath_inputs.specs.Check.{check_line}
use Rattle.certpath_inputs.specs.Demands.{demand_lines, of_purpose}
use Rattle.certpath_inputs.specs.Inputs.{VouchesBy}
use Rattle.certpath_run.specs.Report.{answer_line}
use Rattle.cert_model.specs.View.{time_view}
use Rattle.certpath_run.proofs.Why.{judged_as_read, reported}
use Rattle.fault_texts.specs.FaultLines.{AppendsFaults}
use Rattle.certpath_run.proofs.reporting.why_alone.Goals as goal

pub returns : goal.returns
returns c =
    let settings = c.args.settings.now in
    let inputs = c.args.inputs.now in
    let r = rules_by settings.policy.moment settings.policy.demand_lists (VouchesBy c.args.vouch.now.vouchers.now) in
    let xs = c.requires.items in
    let ys = c.requires.anchors in
    let answered = c.in_ok-answered.answered in
    let read = c.in_ok-read.read in
    let faults = subst (λ d. AppendsFaults (map item_of read.items.items) settings.target (map item_of read.anchors.items) (demand_lines d ++ (answer_line answered.answer ++ check_line answered.said)) (string_bytes c.in_ok-text.text))
    c.none-demand.ensures c.in_ok-text.ensures in
    let m = time_view settings.policy.moment in
    let read_items = map item_of read.items.items in
    let read_anchors = map item_of read.anchors.items in
    let are = c.in_ok-read.ensures.items in
    let anchors_are = c.in_ok-read.ensures.anchors in
    let judged = judged_as_read m inputs.items.items xs.0 read_items c.args.items.now xs.1 are xs.2 in
    let anchors_judged = judged_as_read m inputs.anchors.items ys.0 read_anchors c.args.anchors.now ys.1 anchors_are ys.2 in
    let answers = rw (c.deref.ensures.value, c.deref-2.ensures.value) at c.in_ok-answered.ensures in
    reported (of_purpose None) r r inputs.items inputs.anchors settings.target read_items read_anchors read_items read_anchors answered.answer answered.said _ _ _
    are anchors_are are anchors_are (answers judged anchors_judged)
    faults (rw (c.deref-3.ensures.value, c.deref-4.ensures.value) at c.in_ok-push_why.ensures) c.outcome-outcome.ensures
