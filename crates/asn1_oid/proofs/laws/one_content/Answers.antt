use Rattle.asn1_oid.proofs.SpelledComponents.{same_numbers}
use Rattle.asn1_oid.proofs.WrittenRead.{content_below}
use Rattle.asn1_oid.proofs.laws.one_content.Goals as goal

pub returns : goal.returns
returns c = record { subidentifiers = same_numbers; octets = content_below }
