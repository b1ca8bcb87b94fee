use Rattle.std.proofs.Common.{map}
use Rattle.cert_model.specs.View.{ext_view}
use Rattle.cert_serving.specs.View.{demands_view}
use Rattle.cert_serving.proofs.Certificates.{permitted_by}
use Rattle.cert_serving.proofs.item.is_permitted.Goals as goal

pub returns-in-Some : goal.returns-in-Some
returns-in-Some c =
    let h = rw c.in-Some.is at c.in_ok-extensions.ensures in
    let m = rw c.deref.ensures.value at c.meets.ensures in
    let p = permitted_by (demands_view c.args.demands.now) c.args.octets.now (map ext_view c.in-Some.extensions.items) h in
    (λ t. p.0 (m.0 t), λ q. m.1 (p.1 q))
