use Rattle.std.proofs.Common.{◌≡◌, length}
use Rattle.std.specs.List.{filter}
use Rattle.x509_names.specs.View.{has_type}
use Rattle.x509_names.proofs.attributes.AttributesOfIterator.next.Given as goal

abbrev pub invariant-loop-attribute : goal.invariant-loop-attribute
invariant-loop-attribute l = filter (has_type l.self-inside.identifier.now) l.self-inside.attributes ≡ l.fn.self

abbrev pub decreases-loop-attribute : goal.decreases-loop-attribute
decreases-loop-attribute l = length l.self-inside.attributes
