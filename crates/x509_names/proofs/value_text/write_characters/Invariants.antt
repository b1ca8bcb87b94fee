use Rattle.std.proofs.Common.{ℕ, List, length}
use Rattle.std.specs.Fmt.{HasWritten, IsPlainFormatter}
use Rattle.std.specs.Str.{encode_utf8_all}
use Rattle.x509_names.proofs.WideLaws.{HasRead}
use Rattle.x509_names.proofs.value_text.write_characters.Given as goal

-- these characters were written
abbrev pub invariant-loop-character : goal.invariant-loop-character
invariant-loop-character g l =
    IsPlainFormatter l.fn.f
    → (cs : List ℕ) × HasRead l.fn.content l.rest cs × HasWritten g.W.Write.write_str_gives l.fn.f (encode_utf8_all cs) l.f

abbrev pub decreases-loop-character : goal.decreases-loop-character
decreases-loop-character g l = length l.rest
