use Rattle.certpath_typed.proofs.Taken.{certificate_taken, list_taken}
use Rattle.certpath_typed.proofs.laws.strict_items.Goals as goal

pub returns : goal.returns
returns c = record {
  certificate = λ item d small is. (certificate_taken item d small is, is.spelled);
  list = λ item l small is. (list_taken item l small is, is.spelled);
}
