use Rattle.std.proofs.Common.{rules, arith, ◌≡◌, true, false}
use Rattle.std.proofs.lemmas.Grind.{common_steps}
use Rattle.cert_model.specs.Fields.{Certificate}
use Rattle.cert_model.specs.View.{certificate_view}
use Rattle.cert_model.specs.Class.{IsCertificateItem}
use Rattle.x509_links.specs.Readers.{certificate_view as read_view}
use Rattle.x509_links.specs.Lenient.{lenient_certificate}
use Rattle.certpath_typed.proofs.Taken.{no_certificate}
use Rattle.certpath_typed.proofs.Gate.{strict_certificate}
use Rattle.certpath_typed.proofs.class.certificate_of.Goals as goal

pub returns-then-not-in_range-clause-class : goal.returns-then-not-in_range-clause-class
returns-then-not-in_range-clause-class c =
    let item = c.args.item.now in
    let r = c.in-Some.certificate in
    let read : (d : Certificate) → IsCertificateItem item d → read_view r ≡ lenient_certificate d = search rules in
    let out : c.in_range.result ≡ false = grind (arith, common_steps) in
    no_certificate item r (certificate_view c.in_ok-fields.fields) read c.in_ok-fields.ensures
    (λ range spelled. let in_range : c.in_range.result ≡ true = c.in_range.ensures.1 range in cc)

pub returns-then-not-is_written_certificate-clause-class : goal.returns-then-not-is_written_certificate-clause-class
returns-then-not-is_written_certificate-clause-class c =
    let item = c.args.item.now in
    let r = c.in-Some.certificate in
    let read : (d : Certificate) → IsCertificateItem item d → read_view r ≡ lenient_certificate d = search rules in
    let other : c.is_written_certificate.result ≡ false = grind (arith, common_steps) in
    no_certificate item r (certificate_view c.in_ok-fields.fields) read c.in_ok-fields.ensures
    (λ range spelled. let same : c.is_written_certificate.result ≡ true = c.is_written_certificate.ensures.1 spelled in cc)

pub returns-clause-class : goal.returns-clause-class
returns-clause-class c =
    let in_range : c.in_range.result ≡ true = grind (arith, common_steps) in
    let same : c.is_written_certificate.result ≡ true = grind (arith, common_steps) in
    strict_certificate c.args.item.now (certificate_view c.in_ok-fields.fields) c.requires.object (c.in_range.ensures.0 in_range) (c.is_written_certificate.ensures.0 same)
