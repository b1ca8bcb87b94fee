use Rattle.std.proofs.Common.{◌≡◌, length, map}
use Rattle.std.specs.Slice.Iter.{iter_rest}
use Rattle.x509_names.specs.View.{attribute_view}
use Rattle.x509_names.specs.Writing.{set_can_be_shown}
use Rattle.x509_names.proofs.text.set_is_shown.Given as goal

-- so far each can be shown
abbrev pub invariant-loop-attribute : goal.invariant-loop-attribute
invariant-loop-attribute l = set_can_be_shown (map attribute_view (iter_rest l.rest)) ≡ set_can_be_shown (map attribute_view l.fn.attributes)

abbrev pub decreases-loop-attribute : goal.decreases-loop-attribute
decreases-loop-attribute l = length (iter_rest l.rest)
