use Rattle.std.proofs.Common.{◌∙◌}
use Rattle.cert_model.proofs.Orders.{header_of_parts}
use Rattle.cert_model.proofs.ascending.header_octets.Goals as goal

pub returns : goal.returns
returns c =
    let is = rw c.unwrap.ensures at c.strict_octets.ensures.octets in
    let new = c.new.ensures in
    is ∙ header_of_parts c.new.result c.args.class c.args.constructed c.args.tag c.args.size new.class new.constructed new.tag new.length
