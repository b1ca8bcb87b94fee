use Rattle.certpath_evidence.proofs.LawFacts.{one_bad}
use Rattle.certpath_evidence.proofs.laws.one_first_bad.Goals as goal

pub returns : goal.returns
returns c = one_bad
