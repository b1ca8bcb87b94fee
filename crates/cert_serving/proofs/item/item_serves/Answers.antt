use Rattle.std.proofs.Common.{map}
use Rattle.cert_model.specs.View.{ext_view}
use Rattle.host_names.specs.Asked.{host_view}
use Rattle.cert_serving.specs.Serving.{Serves}
use Rattle.cert_serving.proofs.Certificates.{answered}
use Rattle.cert_serving.proofs.item.item_serves.Goals as goal

pub returns-in-Some : goal.returns-in-Some
returns-in-Some c =
    let h = rw c.in-Some.is at c.in_ok-extensions.ensures in
    let t = rw c.deref.ensures.value at c.serves.ensures in
    answered c.args.octets.now (map ext_view c.in-Some.extensions.items) (Serves (host_view c.args.host.now)) c.serves.result c.answer_of.result h t c.answer_of.ensures
