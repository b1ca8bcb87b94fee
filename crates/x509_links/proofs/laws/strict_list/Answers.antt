use Rattle.x509_links.proofs.StrictLists.{list_is}
use Rattle.x509_links.proofs.laws.strict_list.Goals as goal

pub returns : goal.returns
returns c = λ l rest range small item. list_is l rest range small item
