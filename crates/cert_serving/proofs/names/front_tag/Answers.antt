use Rattle.std.proofs.Common.{◌≡◌, ◌++◌, arith, ap}
use Rattle.asn1_core.specs.Strict.{Head}
use Rattle.cert_model.proofs.PartFacts.{part_head}
use Rattle.cert_serving.proofs.names.front_tag.Goals as goal

pub returns-in_default : goal.returns-in_default
returns-in_default c = λ e rest class tag is.
    let h = part_head e rest c.args.octets.now class tag (omega arith) is in
    let x = c.strict.ensures.only _ (e.content ++ rest) h.0 h.1 in rw c.in_default.is at x

pub returns : goal.returns
returns c = λ e rest class tag is.
    let h = part_head e rest c.args.octets.now class tag (omega arith) is in
    let x = c.in-Ok.ensures.only _ (e.content ++ rest) h.0 h.1 in
    let t = ap (λ (h : Head). h.tag) x.0 in
    cc
