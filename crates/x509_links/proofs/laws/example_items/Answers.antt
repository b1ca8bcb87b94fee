use Rattle.std.proofs.Common.{lit<}
use Rattle.cert_model.specs.Examples.{constrained, octets_of_constrained}
use Rattle.x509_links.specs.Examples.{revoking_with_reason, octets_of_revoking_with_reason}
use Rattle.x509_links.proofs.ExampleItems.{constrained_below, constrained_item, revoking_below, revoking_item}
use Rattle.x509_links.proofs.FromDer.{certificate_item_unparsed, list_item_unparsed}
use Rattle.x509_links.proofs.laws.example_items.Goals as goal

pub returns-clause-certificate : goal.returns-clause-certificate
returns-clause-certificate c = (constrained_below, lit< tt, constrained_item)

pub returns-clause-certificate_read : goal.returns-clause-certificate_read
returns-clause-certificate_read c = certificate_item_unparsed octets_of_constrained constrained constrained_item (lit< tt)

pub returns-clause-list : goal.returns-clause-list
returns-clause-list c = (revoking_below, lit< tt, revoking_item)

pub returns-clause-list_read : goal.returns-clause-list_read
returns-clause-list_read c = list_item_unparsed octets_of_revoking_with_reason revoking_with_reason revoking_item (lit< tt)

pub returns-clause-certificate_by_setting : goal.returns-clause-certificate_by_setting
returns-clause-certificate_by_setting c = (constrained_below, certificate_item_unparsed octets_of_constrained constrained constrained_item (lit< tt))

pub returns-clause-list_by_setting : goal.returns-clause-list_by_setting
returns-clause-list_by_setting c = (revoking_below, list_item_unparsed octets_of_revoking_with_reason revoking_with_reason revoking_item (lit< tt))
