use Rattle.x509_algorithms.proofs.SignatureLaws.{signature_one}
use Rattle.x509_algorithms.proofs.worked.one_signature.Goals as goal

pub returns : goal.returns
returns c = signature_one
