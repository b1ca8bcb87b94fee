use Rattle.std.proofs.Common.{string_bytes}
use Rattle.std.proofs.lemmas.Str.{IsUtf8-string_bytes}
use Rattle.asn1_strings.proofs.Reading.{refused}
use Rattle.asn1_strings.proofs.wide.WideStringFromLeaf.from_content.Goals as goal

pub returns-in-Err-clause-value : goal.returns-in-Err-clause-value
returns-in-Err-clause-value g c = (λ _. tt, λ other v is. refused g.F.WideForm.char_octets c.args.octets.now (string_bytes v.text) c.in-Err.e c.in-Err.ensures other (IsUtf8-string_bytes v.text) is)
