use Rattle.std.proofs.Common.{◌≡◌, ℕ, List, ◌++◌, length, map}
use Rattle.std.specs.Prelude.{codes}
use Rattle.std.specs.Fmt.{HasWritten, IsPlainFormatter}
use Rattle.std.specs.Slice.Iter.{iter_rest}
use Rattle.x509_names.specs.View.{attribute_view}
use Rattle.x509_names.specs.Writing.{label_of, attribute_piece, set_piece, left_texts}
use Rattle.x509_names.proofs.text.write_set.Given as goal

-- what was written, and what is left to write
abbrev pub invariant-loop-attribute : goal.invariant-loop-attribute
invariant-loop-attribute g l =
    IsPlainFormatter l.fn.f
    → (done : List ℕ) × HasWritten g.W.Write.write_str_gives l.fn.f done l.f
    × (done ++ left_texts l.begun (codes " + ") (map (attribute_piece (label_of l.fn.labels)) (map attribute_view (iter_rest l.rest)))
    ≡ set_piece (label_of l.fn.labels) (map attribute_view l.fn.attributes))

abbrev pub decreases-loop-attribute : goal.decreases-loop-attribute
decreases-loop-attribute g l = length (iter_rest l.rest)
