use Rattle.std.proofs.Common.{◌≡◌, ℕ, List, ◌++◌, ◌-◌, ◌≤◌}
use Rattle.std.specs.Fmt.{HasWritten, IsPlainFormatter}
use Rattle.x509_ext_flags.specs.Texts.{names_set, flags_text}
use Rattle.x509_ext_flags.proofs.TextLaws.{left_names}
use Rattle.x509_ext_flags.proofs.names.write_names.Given as goal

-- what was written, and what is left to write
abbrev pub invariant-loop-bit : goal.invariant-loop-bit
invariant-loop-bit g l =
    (l.bit ≤ l.fn.width)
    × (IsPlainFormatter l.fn.f
    → (done : List ℕ) × HasWritten g.W.Write.write_str_gives l.fn.f done l.f
    × (done ++ left_names l.begun (names_set g.T.FlagNames.name_of l.fn.flags (l.fn.width - l.bit) l.bit) ≡ flags_text g.T.FlagNames.name_of l.fn.width l.fn.flags))

abbrev pub decreases-loop-bit : goal.decreases-loop-bit
decreases-loop-bit g l = l.fn.width - l.bit
