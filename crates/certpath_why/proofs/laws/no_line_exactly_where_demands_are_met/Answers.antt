use Rattle.certpath_why.proofs.Told.{none_met}
use Rattle.certpath_why.proofs.laws.no_line_exactly_where_demands_are_met.Goals as goal

pub returns : goal.returns
returns c = λ demand target v x certificate. none_met demand target v x certificate
