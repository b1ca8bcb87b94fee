use Rattle.std.proofs.Common.{◌≡◌, ◌++◌, drop, string_bytes}
use Rattle.certpath_evidence.specs.Evidence.{position_words}
use Rattle.certpath_evidence.proofs.writing.write_positions.Given as goal

abbrev pub invariant-loop-position : goal.invariant-loop-position
invariant-loop-position l = string_bytes l.text ++ position_words (drop l.position-index l.positions) ≡ string_bytes l.initial.text ++ position_words l.positions
