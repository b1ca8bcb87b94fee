use Rattle.std.proofs.Common.{◌≡◌, ◌∙◌, ap, string_bytes}
use Rattle.cert_model.specs.View.{time_view}
use Rattle.certpath_inputs.specs.Demands.{demand_lines}
use Rattle.certpath_run.specs.Report.{report_with}
use Rattle.certpath_run.proofs.ReportFacts.{same_report}
use Rattle.certpath_run.proofs.reporting.report_by.Goals as goal

pub returns : goal.returns
returns g c =
    let xs = c.requires.items.0 in
    let ys = c.requires.anchors.0 in
    let xs_are = c.requires.items.1 in
    let ys_are = c.requires.anchors.1 in
    let judged = c.requires.items.2 in
    let anchors_judged = c.requires.anchors.2 in
    let lines = demand_lines c.args.demand.now in
    let m = time_view c.args.settings.now.policy.moment in
    let inputs = c.args.inputs.now in
    let answered = c.in_ok-answered.answered in
    let holds = c.in_ok-answered.ensures xs ys xs_are ys_are judged anchors_judged in
    let written : string_bytes c.in_ok-text.text ≡ report_with lines xs c.end.result ys c.end-2.result answered.answer answered.said =
    c.in_ok-text.ensures ∙ same_report lines m xs ys c.args.items.now c.args.anchors.now c.end.result c.end-2.result answered.answer answered.said judged anchors_judged in
    record {
      classed = xs;
      classed_anchors = ys;
      answer = answered.answer;
      are_classed = xs_are;
      anchors_are_classed = ys_are;
      holds = holds.1.holds;
      text_is = written ∙ ap (λ e. report_with lines xs e ys c.end-2.result answered.answer answered.said) c.end.ensures ∙ ap (λ e. report_with lines xs inputs.items.end ys e answered.answer answered.said) c.end-2.ensures
          ∙ ap (λ s. report_with lines xs inputs.items.end ys inputs.anchors.end answered.answer s) holds.0;
      outcome_is = c.outcome-outcome.ensures;
    }
