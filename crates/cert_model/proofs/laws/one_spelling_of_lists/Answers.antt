use Rattle.cert_model.proofs.Classes.{one_list}
use Rattle.cert_model.proofs.laws.one_spelling_of_lists.Goals as goal

pub returns : goal.returns
returns c = one_list
