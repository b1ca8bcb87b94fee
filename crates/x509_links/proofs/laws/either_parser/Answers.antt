use Rattle.x509_links.proofs.FromDer.{certificate_by_either, list_by_either}
use Rattle.x509_links.proofs.laws.either_parser.Goals as goal

pub returns-clause-certificate : goal.returns-clause-certificate
returns-clause-certificate c = certificate_by_either

pub returns-clause-list : goal.returns-clause-list
returns-clause-list c = list_by_either
