use Rattle.certpath_files.proofs.FrontFacts.{pieces_whole}
use Rattle.certpath_files.proofs.SomeFacts.{element_some}
use Rattle.certpath_files.proofs.laws.each_octet_once.Goals as goal

pub returns-clause-once : goal.returns-clause-once
returns-clause-once c = pieces_whole

pub returns-clause-some : goal.returns-clause-some
returns-clause-some c = element_some
