use Rattle.std.proofs.Common.{map}
use Rattle.cert_model.specs.View.{ext_view}
use Rattle.cert_purpose.specs.Purposes.{Allows}
use Rattle.cert_serving.proofs.Certificates.{answered}
use Rattle.cert_serving.proofs.item.item_allows.Goals as goal

pub returns-in-Some : goal.returns-in-Some
returns-in-Some c =
    let h = rw c.in-Some.is at c.in_ok-extensions.ensures in
    let t = rw c.deref.ensures.value at c.allows.ensures in
    answered c.args.octets.now (map ext_view c.in-Some.extensions.items) (Allows c.args.purpose.now) c.allows.result c.answer_of.result h t c.answer_of.ensures
