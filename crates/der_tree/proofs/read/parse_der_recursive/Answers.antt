use Rattle.std.proofs.lemmas.Result.{IfOk-weaker}
use Rattle.der_tree.specs.View.{view}
use Rattle.der_tree.proofs.Fronts.{read_only}
use Rattle.der_tree.proofs.Leveled.{object_from}
use Rattle.der_tree.proofs.read.parse_der_recursive.Goals as goal

pub returns-clause-object : goal.returns-clause-object
returns-clause-object c = IfOk-weaker c.parse_der_recursive_counted.result _ _ (λ p found. object_from (view p.1) c.args.levels found.0) c.parse_der_recursive_counted.ensures.found

pub returns-clause-only : goal.returns-clause-only
returns-clause-only c = λ s r is split.
    read_only c.args.levels c.args.i.now s r c.parse_der_recursive_counted.result c.parse_der_recursive_counted.ensures.found c.parse_der_recursive_counted.ensures.none is split
