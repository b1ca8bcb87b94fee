use Rattle.std.proofs.Common.{length, subst}
use Rattle.cert_judge.specs.Items.{rules_by}
use Rattle.certpath_inputs.specs.Demands.{ArePermitsOf, demanded, target_octets}
use Rattle.certpath_inputs.proofs.DemandFacts.{of_ok, by_equal}
use Rattle.certpath_recheck.specs.Recheck.{IsSaidOf}
use Rattle.certpath_recheck.proofs.saying.said_within.Goals as goal

pub returns : goal.returns
returns c =
    let inputs = c.args.inputs.now in
    let policy = c.args.settings.now.policy in
    let permits = c.in_ok-permits.permits in
    let items = inputs.items.items in
    let permitted : ArePermitsOf (demanded c.args.demand.now (target_octets items (length items))) items permits =
    subst (λ n. ArePermitsOf (demanded c.args.demand.now (target_octets items n)) items permits) c.len.ensures.len c.in_ok-permits.ensures in
    of_ok _ _ (λ said h. (
      permits,
      permitted,
      by_equal (λ V. IsSaidOf (rules_by policy.moment policy.demand_lists V) inputs.items inputs.anchors c.args.inventory.now said)
          _ _ _ _ c.new-restricted.ensures.vouch c.new-restricted.ensures.permit h,
    )) c.said_by.result c.said_by.ensures
