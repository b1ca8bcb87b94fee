use Rattle.std.proofs.Common.{◌≡◌, ℕ, List, ◌++◌, map}
use Rattle.std.specs.Prelude.{decimal}
use Rattle.std.specs.Fmt.{HasWritten, IsPlainFormatter}
use Rattle.asn1_oid.specs.Joining.{joined_after}
use Rattle.asn1_oid.proofs.text.write_dotted.Given as goal

-- what was written, and what is left to write
abbrev pub invariant-loop-component : goal.invariant-loop-component
invariant-loop-component g l =
    IsPlainFormatter l.fn.f
    → (done : List ℕ) × HasWritten g.W.Write.write_str_gives l.fn.f done l.f
    × (done ++ joined_after l.begun 0x2E (map decimal l.left) ≡ joined_after l.initial.begun 0x2E (map decimal l.initial.left))
