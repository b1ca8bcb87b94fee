use Rattle.std.proofs.Common.{◌≡◌, ◌++◌, length}
use Rattle.der_tree.specs.Tree.{Trees, all_octets}
use Rattle.der_tree.specs.Shape.{AreObjects}
use Rattle.cert_faults.proofs.elements.after_objects.Given as goal

-- What is left of the content comes after objects.
abbrev pub invariant-loop-rest : goal.invariant-loop-rest
invariant-loop-rest l = (ts : Trees) × AreObjects l.levels ts × (l.content ≡ all_octets ts ++ l.others)

abbrev pub decreases-loop-rest : goal.decreases-loop-rest
decreases-loop-rest l = length l.others
