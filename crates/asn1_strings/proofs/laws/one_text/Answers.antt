use Rattle.asn1_strings.specs.WideLaws.{same_text}
use Rattle.asn1_strings.proofs.laws.one_text.Goals as goal

pub returns : goal.returns
returns g c = same_text g.F.WideForm.char_octets g.met.F.WideForm.some_octet g.met.F.WideForm.one_char
