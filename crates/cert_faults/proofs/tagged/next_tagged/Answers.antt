use Rattle.std.proofs.Common.{◌≡◌, ◌∙◌, ℕ, sym, ap, subst, option_map, true, false, Option, Some, Err}
use Rattle.asn1_core.specs.Elements.{Element}
use Rattle.cert_model.specs.View.{any_view}
use Rattle.cert_faults.specs.declared.places.Expected.TheVariants as wants
use Rattle.cert_faults.specs.Steps.{unlike, whole, at_view, Rest}
use Rattle.cert_faults.specs.Walks.{extensions_fault}
use Rattle.cert_faults.specs.Elements.{IsObjectFault}
use Rattle.cert_faults.specs.Items.{tagged, IsTaggedFault, early, primitive, content}
use Rattle.cert_faults.proofs.Faults.{tagged_refused, walk_passed, stops_weaker}
use Rattle.cert_faults.proofs.tagged.next_tagged.Goals as goal

pub returns-then-not-is_later : goal.returns-then-not-is_later
returns-then-not-is_later c =
    let r = at_view c.args.at in
    let there : (tagged c.args.tag r).0 ≡ Some (any_view c.in-Some.element) = ap (λ (z : Option Element × ℕ × Rest). z.0) c.tagged-left.ensures ∙ ap (option_map any_view) c.in-Some.is in
    let late : c.args.is_later ≡ false = cc in
    let same : c.unlike.result ≡ unlike (whole c.args.field) wants.LaterVersion r.1 = cc in
    let fault : IsTaggedFault c.args.field c.args.tag c.args.is_later r c.unlike.result = early (any_view c.in-Some.element) there late same in
    (fault, tagged_refused c.args.field c.args.tag c.args.is_later r c.unlike.result fault)

pub returns-then-not-element : goal.returns-then-not-element
returns-then-not-element c =
    let r = at_view c.args.at in
    let there : (tagged c.args.tag r).0 ≡ Some (any_view c.in-Some.element) = ap (λ (z : Option Element × ℕ × Rest). z.0) c.tagged-left.ensures ∙ ap (option_map any_view) c.in-Some.is in
    let late : c.args.is_later ≡ true = cc in
    let form : c.in-Some.element.constructed ≡ false = cc in
    let b = c.unlike-then-not-element.result in
    let same : b ≡ unlike (whole c.args.field) wants.Constructed r.1 = cc in
    let fault : IsTaggedFault c.args.field c.args.tag c.args.is_later r b = primitive (any_view c.in-Some.element) there late form same in
    (fault, tagged_refused c.args.field c.args.tag c.args.is_later r b fault)

pub returns-in_err-content_fault : goal.returns-in_err-content_fault
returns-in_err-content_fault c =
    let r = at_view c.args.at in
    let e = any_view c.in-Some.element in
    let there : (tagged c.args.tag r).0 ≡ Some e = ap (λ (z : Option Element × ℕ × Rest). z.0) c.tagged-left.ensures ∙ ap (option_map any_view) c.in-Some.is in
    let inside_is : c.tagged-left.result.1 ≡ (tagged c.args.tag r).1 = sym (ap (λ (z : Option Element × ℕ × Rest). z.1) c.tagged-left.ensures) in
    let late : c.args.is_later ≡ true = cc in
    let form : e.constructed ≡ true = cc in
    walk_passed c.from_residual.result c.in_err-content_fault.field-0.0 c.from_residual.ensures.1 _ _ (stops_weaker c.in_err-content_fault.field-0.0 _ _ (λ b p.
    let held = subst (λ n. IsObjectFault (λ t d. extensions_fault c.args.field n t ≡ Err d) (whole c.args.field) e.content n b) inside_is p.0 in
    let fault : IsTaggedFault c.args.field c.args.tag c.args.is_later r b = content e there late form held in
    (fault, tagged_refused c.args.field c.args.tag c.args.is_later r b fault)) c.in_err-content_fault.ensures)
