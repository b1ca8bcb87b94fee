use Rattle.std.proofs.Common.{ap}
use Rattle.std.specs.List.{flat_map}
use Rattle.std.proofs.lemmas.Str.{chars-encodes}
use Rattle.asn1_strings.proofs.laws.octets_of_characters.Goals as goal

pub returns : goal.returns
returns g c = λ characters scalars. ap (flat_map g.F.WideForm.char_octets) (chars-encodes characters scalars)
