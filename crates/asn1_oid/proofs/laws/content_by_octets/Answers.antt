use Rattle.asn1_oid.proofs.ByOctets as by
use Rattle.asn1_oid.proofs.laws.content_by_octets.Goals as goal

pub returns : goal.returns
returns c = λ octets below. (by.content_by_octets octets, by.content_from_octets octets below)
