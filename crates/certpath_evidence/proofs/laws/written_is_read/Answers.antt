use Rattle.certpath_evidence.proofs.LawFacts.{read_back}
use Rattle.certpath_evidence.proofs.laws.written_is_read.Goals as goal

pub returns : goal.returns
returns c = read_back
