use Rattle.cert_model.proofs.Classes.{class_once}
use Rattle.cert_model.specs.ClassView.{class_view}
use Rattle.certpath_typed.proofs.laws.two_roads.Goals as goal

pub returns : goal.returns
returns c = λ item tree typed first second. class_once item (class_view tree) (class_view typed) first second
