use Rattle.std.proofs.Common.{◌≡◌, ◌∙◌, ap, subst, refl, length, arith, true, string_bytes}
use Rattle.cert_model.specs.View.{time_view}
use Rattle.cert_judge.specs.Items.{rules_by, rules_at}
use Rattle.cert_judge.specs.ItemGraph.{graph_of_items}
use Rattle.certpath_find.specs.AnsweredAll.{IsFoundOfAll}
use Rattle.certpath_inputs.specs.Demands.{demand_lines}
use Rattle.certpath_run.specs.AllReport.{all_report_with, outcome_of_all}
use Rattle.certpath_run.specs.JudgedReport.{judged_all_report}
use Rattle.certpath_run.proofs.InventoryFacts.{same_all_report, all_said_yes}
use Rattle.certpath_run.proofs.reporting_all.report_all_by.Goals as goal

pub returns : goal.returns
returns g c =
    let xs = c.requires.items.0 in
    let ys = c.requires.anchors.0 in
    let xs_are = c.requires.items.1 in
    let ys_are = c.requires.anchors.1 in
    let judged = c.requires.items.2 in
    let anchors_judged = c.requires.anchors.2 in
    let lines = demand_lines c.args.demand.now in
    let V = g.V.Vouch.vouches_for c.args.vouch.now in
    let inputs = c.args.inputs.now in
    let policy = c.args.settings.now.policy in
    let m = time_view policy.moment in
    let r = rules_by policy.moment policy.demand_lists V in
    let inventory = c.in_ok-inventory.inventory in
    let found : IsFoundOfAll (graph_of_items r xs ys) inventory = subst (λ d. IsFoundOfAll (graph_of_items (rules_at m d V) xs ys) inventory) c.demands_lists.ensures (c.in_ok-inventory.ensures m xs ys judged anchors_judged) in
    let exact = c.in_ok-said.ensures.exact in
    let said : c.in_ok-said.said ≡ true = all_said_yes r inputs.items.items inputs.anchors.items xs ys exact.0 exact.1 inventory c.in_ok-said.said xs_are ys_are exact.2 exact.3 exact.4 found.adequate in
    let js = c.args.items.now in
    let hs = c.args.anchors.now in
    let vs = inventory.verdicts.items in
    let written : string_bytes c.in_ok-text.text ≡ all_report_with lines xs c.end.result ys c.end-2.result vs c.in_ok-said.said =
    c.in_ok-text.ensures ∙ ap (λ l. judged_all_report lines js c.end.result hs c.end-2.result l c.in_ok-said.said) c.deref.ensures.value
    ∙ same_all_report lines m xs ys js hs c.end.result c.end-2.result vs c.in_ok-said.said judged anchors_judged in (
      record {
        classed = xs;
        classed_anchors = ys;
        inventory = inventory;
        are_classed = xs_are;
        anchors_are_classed = ys_are;
        adequate = found.adequate;
        holds = found.holds;
        text_is = written ∙ ap (λ e. all_report_with lines xs e ys c.end-2.result vs c.in_ok-said.said) c.end.ensures ∙ ap (λ e. all_report_with lines xs inputs.items.end ys e vs c.in_ok-said.said) c.end-2.ensures
            ∙ ap (λ s. all_report_with lines xs inputs.items.end ys inputs.anchors.end vs s) said;
        outcome_is = c.outcome_of_all-outcome.ensures ∙ ap outcome_of_all c.deref-2.ensures.value;
      },
      refl,
    )

pub report_of_all-requires : goal.report_of_all-requires
report_of_all-requires g c =
    let xs = c.requires.items.0 in
    let ys = c.requires.anchors.0 in
    let m = time_view c.args.settings.now.policy.moment in
    let found = c.in_ok-inventory.ensures m xs ys c.requires.items.2 c.requires.anchors.2 in
    let count = found.adequate.count in
    let judged_count = c.requires.items.2.count in
    let verdicts_are = ap length c.deref.ensures.value in
    omega (arith, count, judged_count, verdicts_are)
