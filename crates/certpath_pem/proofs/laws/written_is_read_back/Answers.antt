use Rattle.certpath_pem.proofs.WriteFacts.{read_back}
use Rattle.certpath_pem.proofs.laws.written_is_read_back.Goals as goal

pub returns : goal.returns
returns c = read_back
