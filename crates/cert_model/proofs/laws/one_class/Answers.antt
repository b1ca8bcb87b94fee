use Rattle.cert_model.proofs.Classes.{class_once}
use Rattle.cert_model.proofs.laws.one_class.Goals as goal

pub returns : goal.returns
returns c = class_once
