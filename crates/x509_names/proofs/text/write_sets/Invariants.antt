use Rattle.std.proofs.Common.{◌≡◌, ℕ, List, ◌++◌, length, map}
use Rattle.std.specs.Prelude.{codes}
use Rattle.std.specs.Fmt.{HasWritten, IsPlainFormatter}
use Rattle.std.specs.Slice.Iter.{iter_rest}
use Rattle.x509_names.specs.View.{set_view}
use Rattle.x509_names.specs.Writing.{label_of, set_piece, sets_piece, left_texts}
use Rattle.x509_names.proofs.text.write_sets.Given as goal

-- what was written, and what is left to write
abbrev pub invariant-loop-set : goal.invariant-loop-set
invariant-loop-set g l =
    IsPlainFormatter l.fn.f
    → (done : List ℕ) × HasWritten g.W.Write.write_str_gives l.fn.f done l.f
    × (done ++ left_texts l.begun (codes ", ") (map (set_piece (label_of l.fn.labels)) (map set_view (iter_rest l.rest)))
    ≡ sets_piece (label_of l.fn.labels) (map set_view l.fn.sets))

abbrev pub decreases-loop-set : goal.decreases-loop-set
decreases-loop-set g l = length (iter_rest l.rest)
