use Rattle.std.proofs.Common.{sym, ap, ◌∙◌}
use Rattle.std.proofs.Output.{has_written_of_eq}
use Rattle.asn1_oid.specs.Text.{dotted, oid_text}
use Rattle.asn1_oid.proofs.TextOf.{text_readable, text_unreadable}
use Rattle.asn1_oid.proofs.text.OidDisplay.fmt.Goals as goal

pub returns-in-Some-clause-writes : goal.returns-in-Some-clause-writes
returns-in-Some-clause-writes g c =
    let read = c.in-Some.ensures in
    let text = ap dotted read.1 ∙ sym (text_readable _ read.0) ∙ ap oid_text c.as_bytes-octets.ensures in
    λ plain ok. has_written_of_eq _ _ _ _ _ text (c.write_dotted.ensures plain ok)

pub returns-in-None-clause-writes : goal.returns-in-None-clause-writes
returns-in-None-clause-writes g c =
    let text = sym (text_unreadable _ c.in-None.ensures) ∙ ap oid_text c.as_bytes-octets.ensures in
    λ plain ok. has_written_of_eq _ _ _ _ _ text (c.write_hex.ensures plain ok)
