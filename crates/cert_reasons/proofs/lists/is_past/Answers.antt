use Rattle.cert_model.specs.View.{time_view}
use Rattle.cert_reasons.proofs.OfLists.{past_iff}
use Rattle.cert_reasons.proofs.lists.is_past.Goals as goal

pub returns-in-Some : goal.returns-in-Some
returns-in-Some c = rw c.in-Some.is (past_iff (time_view c.args.moment.now) (time_view c.in-Some.next) c.is_not_after.result c.is_not_after.ensures)
