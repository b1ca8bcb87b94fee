use Rattle.std.proofs.Common.{ℕ, List, length}
use Rattle.asn1_strings.proofs.Reading.{HasRead}
use Rattle.asn1_strings.proofs.wide.WideString.test_valid_charset.Given as goal

abbrev pub invariant-loop-rest : goal.invariant-loop-rest
invariant-loop-rest g l = (cs : List ℕ) × HasRead g.F.WideForm.char_octets l.octets l.rest cs

abbrev pub decreases-loop-rest : goal.decreases-loop-rest
decreases-loop-rest g l = length l.rest
