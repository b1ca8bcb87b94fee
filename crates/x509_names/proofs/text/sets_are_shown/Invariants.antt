use Rattle.std.proofs.Common.{◌≡◌, length, map}
use Rattle.std.specs.Slice.Iter.{iter_rest}
use Rattle.x509_names.specs.View.{set_view}
use Rattle.x509_names.specs.Writing.{sets_can_be_shown}
use Rattle.x509_names.proofs.text.sets_are_shown.Given as goal

-- so far each can be shown
abbrev pub invariant-loop-set : goal.invariant-loop-set
invariant-loop-set l = sets_can_be_shown (map set_view (iter_rest l.rest)) ≡ sets_can_be_shown (map set_view l.fn.sets)

abbrev pub decreases-loop-set : goal.decreases-loop-set
decreases-loop-set l = length (iter_rest l.rest)
