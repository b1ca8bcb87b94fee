use Rattle.x509_links.proofs.FromDer.{list_read, list_item_read}
use Rattle.x509_links.proofs.laws.list_from_der.Goals as goal

pub returns-clause-fields : goal.returns-clause-fields
returns-clause-fields c = list_read

pub returns-clause-item : goal.returns-clause-item
returns-clause-item c = list_item_read
