use Rattle.certpath_run.proofs.InventoryFacts.{findings_of}
use Rattle.certpath_run.proofs.finding.findings_on.Goals as goal

pub returns : goal.returns
returns c =
    let inputs = c.args.inputs.now in
    findings_of c.args.settings.now c.args.demand.now c.in_ok-text.field-0.outcome c.in_ok-text.field-0.inventory inputs.items inputs.anchors inputs.vouchers _ _ c.in_ok-text.ensures.inventory c.in_ok-evidence.ensures
