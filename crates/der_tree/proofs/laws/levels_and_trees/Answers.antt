use Rattle.std.proofs.Common.{subst}
use Rattle.der_tree.specs.Object.{IsDerObject}
use Rattle.der_tree.proofs.Leveled.{object_from, object_to}
use Rattle.der_tree.proofs.laws.levels_and_trees.Goals as goal

pub returns : goal.returns
returns c = λ k s. (object_to k s, λ p. subst (IsDerObject k) p.2 (object_from p.0 k p.1))
