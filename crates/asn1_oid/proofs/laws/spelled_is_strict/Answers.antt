use Rattle.asn1_oid.proofs.SpelledComponents.{spelled_content}
use Rattle.asn1_oid.proofs.laws.spelled_is_strict.Goals as goal

pub returns : goal.returns
returns c = spelled_content
