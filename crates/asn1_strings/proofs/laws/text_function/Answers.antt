use Rattle.asn1_strings.specs.ReaderLaws.{text_is}
use Rattle.asn1_strings.proofs.laws.text_function.Goals as goal

pub returns : goal.returns
returns g c = text_is g.C.TestValidCharset.passes g.C.TestValidCharset.is_text g.met.C.TestValidCharset.telling
