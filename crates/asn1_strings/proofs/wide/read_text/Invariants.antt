use Rattle.std.proofs.Common.{◌≡◌, ℕ, List, length, string_bytes}
use Rattle.std.specs.Str.{encode_utf8_all}
use Rattle.asn1_strings.proofs.Reading.{HasRead}
use Rattle.asn1_strings.proofs.wide.read_text.Given as goal

abbrev pub invariant-loop-rest : goal.invariant-loop-rest
invariant-loop-rest g l = (cs : List ℕ) × HasRead g.F.WideForm.char_octets l.octets l.rest cs × (string_bytes l.text ≡ encode_utf8_all cs)

abbrev pub decreases-loop-rest : goal.decreases-loop-rest
decreases-loop-rest g l = length l.rest
