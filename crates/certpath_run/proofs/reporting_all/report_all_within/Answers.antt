use Rattle.std.proofs.Common.{length, subst, string_bytes}
use Rattle.certpath_inputs.specs.Demands.{ArePermitsOf, demand_lines, demanded, target_octets}
use Rattle.certpath_inputs.proofs.DemandFacts.{of_ok}
use Rattle.certpath_run.specs.AllReport.{IsAllReportBy}
use Rattle.certpath_run.proofs.Within.{by_equal}
use Rattle.certpath_run.proofs.reporting_all.report_all_within.Goals as goal

pub returns : goal.returns
returns c =
    let inputs = c.args.inputs.now in
    let demand = c.args.demand.now in
    let items = inputs.items.items in
    let permits = c.in_ok-permits.permits in
    let permitted : ArePermitsOf (demanded demand (target_octets items (length items))) items permits =
    subst (λ n. ArePermitsOf (demanded demand (target_octets items n)) items permits) c.len.ensures.len c.in_ok-permits.ensures in
    of_ok _ _ (λ r h. (
      permits,
      permitted,
      by_equal (λ V. IsAllReportBy (demand_lines demand) c.args.settings.now r.outcome r.inventory inputs.items inputs.anchors (string_bytes r.text) V)
          _ _ _ _ c.new-restricted.ensures.vouch c.new-restricted.ensures.permit h,
    )) c.report_all_by.result c.report_all_by.ensures
