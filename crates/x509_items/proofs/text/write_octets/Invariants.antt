use Rattle.std.proofs.Common.{◌≡◌, ℕ, List, ◌++◌, length, map}
use Rattle.std.specs.Fmt.{HasWritten, IsPlainFormatter}
use Rattle.x509_core.specs.asn1_oid.specs.Joining.{joined_after}
use Rattle.x509_core.specs.asn1_oid.specs.Text.{hex_pair}
use Rattle.x509_items.proofs.text.write_octets.Given as goal

-- what was written, and what is left to write
abbrev pub invariant-loop-octet : goal.invariant-loop-octet
invariant-loop-octet g l =
    IsPlainFormatter l.fn.f
    → (done : List ℕ) × HasWritten g.W.Write.write_str_gives l.fn.f done l.f
    × (done ++ joined_after l.begun 0x3A (map hex_pair l.rest) ≡ joined_after l.initial.begun 0x3A (map hex_pair l.initial.rest))

abbrev pub decreases-loop-octet : goal.decreases-loop-octet
decreases-loop-octet g l = length l.rest
