-- How many headers are tried, added up.
use Rattle.std.proofs.Common.{ap, arith, length}
use Rattle.asn1_any.specs.Views.{any_of}
use Rattle.x509_core.proofs.LeafLaws.{content_found}
use Rattle.x509_certs.proofs.certificate.certificate_of.Goals as goal

pub returns-in_err-signature_value-clause-most : goal.returns-in_err-signature_value-clause-most
returns-in_err-signature_value-clause-most c =
    let content = (content_found 16 (any_of c.args.element.any) c.in_ok-parts.parts.octets c.in_ok-parts.ensures.read).1 in
    let cut = c.in_ok-parts.ensures.most in
    let tbs = c.in_ok-tbs_certificate.ensures.most in
    let ends = c.in_ok-tbs_certificate.ensures.ends in
    let algorithm = c.in_ok-signature_algorithm.ensures.most in
    omega (arith, ap length content, cut, tbs, ends, algorithm)

pub returns-in_err-signature_algorithm-clause-most : goal.returns-in_err-signature_algorithm-clause-most
returns-in_err-signature_algorithm-clause-most c =
    let content = (content_found 16 (any_of c.args.element.any) c.in_ok-parts.parts.octets c.in_ok-parts.ensures.read).1 in
    let cut = c.in_ok-parts.ensures.most in
    let tbs = c.in_ok-tbs_certificate.ensures.most in
    let ends = c.in_ok-tbs_certificate.ensures.ends in
    let algorithm = c.in_err-signature_algorithm.ensures.most in
    omega (arith, ap length content, cut, tbs, ends, algorithm)
