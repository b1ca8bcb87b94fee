use Rattle.x509_links.proofs.StrictCertificates.{certificate_is}
use Rattle.x509_links.proofs.laws.strict_certificate.Goals as goal

pub returns : goal.returns
returns c = λ d rest range small. certificate_is d rest range small
