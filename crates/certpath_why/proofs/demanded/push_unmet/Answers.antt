use Rattle.std.proofs.Common.{◌∙◌, ◌++◌, sym, refl}
use Rattle.certpath_inputs.proofs.DemandFacts.{on_some}
use Rattle.certpath_why.proofs.Joined.{then_appended}
use Rattle.certpath_why.proofs.demanded.push_unmet.Goals as goal

pub returns : goal.returns
returns c =
    let a = c.in_ok-push_unmet_purpose.ensures in
    let b = c.in_ok-push_unmet_host.ensures in
    let demand = c.args.sought.now.demand.now in (
      a.0 ++ b.0,
      then_appended _ a.0 b.0 _ _ b.1 a.1,
      on_some demand.purpose demand.host _ _ (sym c.is_none.ensures ∙ c.if-is_none.false) (record { purpose = a.0; purpose_is = a.2; host = b.0; host_is = b.2; text_is = refl }),
    )
