use Rattle.std.proofs.Common.{ap, sym, Some}
use Rattle.cert_judge.proofs.constraints.path_len_of.Goals as goal

pub returns-clause-found : goal.returns-clause-found
returns-clause-found c = (Some c.in_ok-digits.digits.now, c.in_ok-number.ensures.0, c.in_ok-digits.ensures.found, ap Some (sym c.in_ok-number.ensures.1))
