-- What was said, and what will be said of the attributes that are left, is all.
use Rattle.std.proofs.Common.{◌≡◌, ◌++◌, length, map}
use Rattle.x509_validate.specs.View.{message_view}
use Rattle.x509_validate.specs.Saying.{said_of_attributes}
use Rattle.x509_validate.proofs.name.push_attributes.Given as goal

abbrev pub invariant-loop-attribute : goal.invariant-loop-attribute
invariant-loop-attribute l = map message_view l.said.items ++ said_of_attributes l.left ≡ map message_view l.initial.said.items ++ said_of_attributes l.initial.left

abbrev pub decreases-loop-attribute : goal.decreases-loop-attribute
decreases-loop-attribute l = length l.left
