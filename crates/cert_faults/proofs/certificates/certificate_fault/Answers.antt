use Rattle.std.proofs.Common.{◌≡◌, ◌∙◌, sym, ap, Ok, Err}
use Rattle.der_tree.specs.View.{view}
use Rattle.cert_faults.specs.declared.places.Field.TheVariants as fields
use Rattle.cert_faults.specs.Steps.{at_view, Rest}
use Rattle.cert_faults.specs.Items.{Front, certificate_front, signed_front, signed_end, tagged, before, within, after}
use Rattle.cert_faults.proofs.Faults.{certificate_before, certificate_within, certificate_after, walk_passed, stops_weaker}
use Rattle.cert_faults.proofs.CertificateLaws.{certificate_sound}
use Rattle.cert_faults.proofs.certificates.certificate_fault.Goals as goal

pub returns-in-Err : goal.returns-in-Err
returns-in-Err c =
    let e = c.in-Err.ensures in
    (before e, certificate_before c.args.left (view c.args.object.now) c.in-Err.blame c.requires e)

pub returns-in_err-rest-in-Ok : goal.returns-in_err-rest-in-Ok
returns-in_err-rest-in-Ok c =
    let t = view c.args.object.now in
    let f : Front × Rest = ((c.in-Ok.is_later, at_view c.in-Ok.inner), at_view c.in-Ok.outer) in
    let e : signed_front fields.TbsCertificate certificate_front c.args.left t ≡ Ok f = c.in-Ok.ensures in
    let x = c.in_err-rest-in-Ok.field-0.0 in
    walk_passed c.from_residual.result x c.from_residual.ensures.1 _ _ (stops_weaker x _ _ (λ b p. (within f e p.0, certificate_within c.args.left t f c.requires e p.1)) c.in_err-rest-in-Ok.ensures)

pub returns-in-Ok-signed_end : goal.returns-in-Ok-signed_end
returns-in-Ok-signed_end c =
    let t = view c.args.object.now in
    let f : Front × Rest = ((c.in-Ok.is_later, at_view c.in-Ok.inner), at_view c.in-Ok.outer) in
    let e : signed_front fields.TbsCertificate certificate_front c.args.left t ≡ Ok f = c.in-Ok.ensures in
    let passed = c.in_ok-rest-in-Ok.ensures in
    certificate_sound c.args.left t f c.requires e passed.0 (ap (λ z. signed_end fields.TbsCertificate z f.1) passed.1 ∙ sym c.in-Ok-signed_end.ensures)

pub returns-in-Err-signed_end : goal.returns-in-Err-signed_end
returns-in-Err-signed_end c =
    let t = view c.args.object.now in
    let f : Front × Rest = ((c.in-Ok.is_later, at_view c.in-Ok.inner), at_view c.in-Ok.outer) in
    let e : signed_front fields.TbsCertificate certificate_front c.args.left t ≡ Ok f = c.in-Ok.ensures in
    let passed = c.in_ok-rest-in-Ok.ensures in
    let b = c.in-Err-signed_end.blame in
    let end : signed_end fields.TbsCertificate (tagged 3 f.0.1).2 f.1 ≡ Err b = ap (λ z. signed_end fields.TbsCertificate z f.1) passed.1 ∙ sym c.in-Err-signed_end.ensures in
    (after f e passed.0 end, certificate_after c.args.left t f b c.requires e end)
