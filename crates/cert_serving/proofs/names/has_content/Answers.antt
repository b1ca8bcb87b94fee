use Rattle.std.specs.Prelude.{◌↔◌, IsTrue}
use Rattle.std.proofs.Common.{sym, subst}
use Rattle.cert_serving.specs.declared.names.Choice.{Choice}
use Rattle.cert_serving.specs.GeneralNames.{HasContentOf}
use Rattle.cert_serving.proofs.names.has_content.Goals as goal

pub returns-in-RegisteredId : goal.returns-in-RegisteredId
returns-in-RegisteredId c = subst (λ (z : Choice). IsTrue c.is_oid_content.result ↔ HasContentOf z c.args.content.now) (sym c.in-RegisteredId.is) c.is_oid_content.ensures
