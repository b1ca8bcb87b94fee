use Rattle.x509_links.proofs.FromDer.{certificate_read, certificate_item_read}
use Rattle.x509_links.proofs.laws.certificate_from_der.Goals as goal

pub returns-clause-fields : goal.returns-clause-fields
returns-clause-fields c = certificate_read

pub returns-clause-item : goal.returns-clause-item
returns-clause-item c = certificate_item_read
