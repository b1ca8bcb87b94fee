use Rattle.std.proofs.Common.{arith, ◌≡◌, ap, subst, ◌-◌, length, length-append}
use Rattle.asn1_core.specs.Strict.{strict_header}
use Rattle.asn1_core.specs.Elements.{Element, head_of_element}
use Rattle.asn1_core.specs.Views.{class_number}
use Rattle.certpath_rebuild.proofs.Ends.{Finds, no_last, finds_none, finds_both}
use Rattle.certpath_rebuild.proofs.encode.ElementEncode.before.Goals as goal

pub returns-in_err-front : goal.returns-in_err-front
returns-in_err-front g c =
    let e = c.args.self.now in
    let element : Element = record { class = class_number e.class; constructed = e.constructed; tag = e.tag.0; content = g.C.Encode.octets e.content } in
    finds_none _ _ _ c.from_residual.ensures (no_last c.args.whole.now (strict_header (head_of_element element)) element.content c.in_err-front.ensures)

pub returns : goal.returns
returns g c =
    let e = c.args.self.now in
    let element : Element = record { class = class_number e.class; constructed = e.constructed; tag = e.tag.0; content = g.C.Encode.octets e.content } in
    let whole = c.args.whole.now in
    let front = c.in_ok-front.front.now in
    let size : length whole - length front ≡ length element.content = omega (arith, ap length c.in_ok-front.ensures, length-append front element.content) in
    finds_both whole front (strict_header (head_of_element element)) element.content _ c.in_ok-front.ensures
    (subst (λ n. Finds front (strict_header (record { class = element.class; constructed = element.constructed; tag = element.tag; size = n })) c.before_header.result) size c.before_header.ensures)
