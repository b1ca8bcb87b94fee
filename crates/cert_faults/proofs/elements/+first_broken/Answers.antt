use Rattle.std.proofs.Common.{◌≡◌, ◌∙◌, ap, subst, ◌-◌, length, true, false, arith}
use Rattle.der_tree.specs.Tree.{Content}
use Rattle.der_tree.specs.Shape.{IsContent}
use Rattle.der_tree.specs.View.{element_under}
use Rattle.cert_faults.specs.Elements.{header, content, part, is_holder, content_wants, IsBroken}
use Rattle.cert_faults.specs.Steps.{unlike}
use Rattle.cert_faults.proofs.Broken.{broken_none, broken_some, begins, part_left}
use Rattle.cert_faults.proofs.elements.+first_broken.Goals as goal

pub returns-then-levels-eq0 : goal.returns-then-levels-eq0
returns-then-levels-eq0 t c = broken_none c.args.levels c.args.place c.args.octets.now c.args.left _ (omega arith) c.unlike.ensures

pub returns-in-Err : goal.returns-in-Err
returns-in-Err t c = broken_some c.args.levels c.args.place c.args.octets.now c.args.left _ (omega arith) (header c.in-Err.refusal c.in-Err.ensures.exact cc)

pub returns-then-not-is_holder : goal.returns-then-not-is_holder
returns-then-not-is_holder t c =
    let e = element_under c.in-Ok.found.1.header c.in-Ok.found.1.content.now in
    let cut = c.in-Ok.ensures.found in
    let refused : (d : Content) → IsContent (c.args.levels - 1) e d → ⊥ = λ d holds. c.requires (begins c.args.levels c.args.octets.now cut.0 c.in-Ok.found.0.now e d (omega arith) cut.1 cut.2 holds) in
    let no_holder : is_holder e ≡ false = cc in
    let same : c.unlike-then-not-is_holder.result ≡ unlike c.args.place (content_wants e) c.args.left = cc in
    broken_some c.args.levels c.args.place c.args.octets.now c.args.left _ (omega arith) (content e c.in-Ok.found.0.now c.in-Ok.ensures.exact no_holder refused same)

pub returns : goal.returns
returns t c =
    let e = element_under c.in-Ok.found.1.header c.in-Ok.found.1.content.now in
    let cut = c.in-Ok.ensures.found in
    let rest = c.in-Ok.found.0.now in
    let others = c.after_objects-others.result.now in
    let parts = c.after_objects-others.ensures.objects in
    let holds : is_holder e ≡ true = cc in
    let left_is : c.saturating_sub.result ≡ c.args.left - (length c.args.octets.now - length rest - length others) =
    c.saturating_sub.ensures ∙ ap (λ z. c.args.left - z) (c.saturating_sub-before-2.ensures ∙ ap (λ z. z - length others) c.saturating_sub-before.ensures) in
    let some = part_left c.args.levels c.args.octets.now cut.0 rest others e parts.0 (omega arith) c.requires cut.1 cut.2 holds parts.1 parts.2 in
    let inner = subst (λ n. IsBroken (c.args.levels - 1) c.args.place others n c.first_broken.result) left_is c.first_broken.ensures in
    broken_some c.args.levels c.args.place c.args.octets.now c.args.left _ (omega arith)
    (part e rest parts.0 others c.in-Ok.ensures.exact holds parts.1 parts.2 some c.after_objects-others.ensures.over inner)
