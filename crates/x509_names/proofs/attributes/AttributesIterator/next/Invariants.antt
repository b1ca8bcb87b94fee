use Rattle.std.proofs.Common.{◌≡◌, ◌++◌, length}
use Rattle.std.specs.Slice.Iter.{iter_rest}
use Rattle.x509_names.specs.View.{attributes_in}
use Rattle.x509_names.proofs.attributes.AttributesIterator.next.Given as goal

abbrev pub invariant-loop-attribute : goal.invariant-loop-attribute
invariant-loop-attribute l = iter_rest l.self-inside.set ++ attributes_in (iter_rest l.self-inside.sets) ≡ l.fn.self

abbrev pub decreases-loop-attribute : goal.decreases-loop-attribute
decreases-loop-attribute l = length (iter_rest l.self-inside.sets)
