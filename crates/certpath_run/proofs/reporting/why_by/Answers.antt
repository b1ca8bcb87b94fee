use Rattle.std.proofs.Common.{◌≡◌, ◌∙◌, ◌++◌, subst, map, true}
use Rattle.cert_judge.specs.ItemGraph.{graph_of_items}
use Rattle.cert_judge.specs.Items.{rules_by, item_of}
use Rattle.cert_judge.specs.Vouching.{processing_too}
use Rattle.cert_purpose.specs.Restricting.{restricted_by}
use Rattle.certpath_inputs.specs.Inputs.{VouchesBy}
use Rattle.cert_model.specs.View.{time_view}
use Rattle.certpath_run.proofs.Why.{judged_as_read, reported}
use Rattle.certpath_run.proofs.reporting.why_by.Goals as goal

pub returns : goal.returns
returns g c =
    let settings = c.args.settings.now in
    let inputs = c.args.inputs.now in
    let permit = c.args.permit.now in
    let pairs = VouchesBy c.args.vouch.now.vouchers.now in
    let r = rules_by settings.policy.moment settings.policy.demand_lists (processing_too (g.P.Permit.processes permit) pairs) in
    let s = rules_by settings.policy.moment settings.policy.demand_lists (restricted_by (g.P.Permit.permits permit) (g.P.Permit.processes permit) pairs) in
    let xs = c.requires.items in
    let ys = c.requires.anchors in
    let answered = c.in_ok-answered.answered in
    let read = c.in_ok-read.read in
    let m = time_view settings.policy.moment in
    let read_items = map item_of read.items.items in
    let read_anchors = map item_of read.anchors.items in
    let are = c.in_ok-read.ensures.items in
    let anchors_are = c.in_ok-read.ensures.anchors in
    let judged = judged_as_read m inputs.items.items xs.0 read_items c.args.items.now xs.1 are xs.2 in
    let anchors_judged = judged_as_read m inputs.anchors.items ys.0 read_anchors c.args.anchors.now ys.1 anchors_are ys.2 in
    let answers = rw (c.deref.ensures.value, c.deref-2.ensures.value) at c.in_ok-answered.ensures in
    let holds = answers judged anchors_judged in
    reported c.args.demand.now r s inputs.items inputs.anchors settings.target read_items read_anchors read_items read_anchors answered.answer answered.said _ _ _
    are anchors_are are anchors_are (rw (c.new-restricted.ensures.vouch, c.new-restricted.ensures.permit) at holds)
    c.in_ok-text.ensures (rw (c.deref-3.ensures.value, c.deref-4.ensures.value) at c.in_ok-push_why_for.ensures) c.outcome-outcome.ensures
