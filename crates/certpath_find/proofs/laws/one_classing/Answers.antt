use Rattle.certpath_find.proofs.Answering as lemmas
use Rattle.certpath_find.proofs.laws.one_classing.Goals as goal

pub returns : goal.returns
returns c = lemmas.one_classing
