use Rattle.std.proofs.Common.{◌≡◌, ◌∙◌, ap, sym, subst, length, false, None}
use Rattle.cert_judge.specs.Items.{rules_by}
use Rattle.certpath_inputs.specs.cert_serving.specs.declared.permits.Permits.{Permits}
use Rattle.certpath_inputs.specs.Demands.{ArePermitsOf, VouchesWhere, demanded, is_none, of_purpose, target_octets}
use Rattle.certpath_inputs.proofs.DemandFacts.{of_ok, on_some}
use Rattle.certpath_recheck.specs.Recheck.{IsSaidOf}
use Rattle.certpath_recheck.proofs.saying.said_of.Goals as goal

pub returns : goal.returns
returns c =
    let inputs = c.args.inputs.now in
    let policy = c.args.settings.now.policy in
    let items = inputs.items.items in
    let e = c.for_purpose-demand.ensures in
    let some : is_none (of_purpose c.args.purpose) ≡ false = ap is_none (sym e) ∙ sym c.is_none.ensures ∙ c.if-is_none.false in
    of_ok _ _ (λ said h. on_some c.args.purpose None _ _ some
    (subst (λ d. (permits : Permits) × ArePermitsOf (demanded d (target_octets items (length items))) items permits
    × IsSaidOf (rules_by policy.moment policy.demand_lists (VouchesWhere permits inputs.vouchers)) inputs.items inputs.anchors c.args.inventory.now said) e h)) c.said_within.result c.said_within.ensures
