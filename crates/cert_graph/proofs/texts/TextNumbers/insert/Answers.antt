use Rattle.cert_graph.proofs.TextFacts.{updated_own, updated_others}
use Rattle.cert_graph.proofs.texts.TextNumbers.insert.Goals as goal

pub returns-clause-own : goal.returns-clause-own
returns-clause-own c = λ q is. updated_own c.args.self.now.known c.insert.new.self c.args.text c.tail_of.result c.args.number c.tail_of.ensures (λ k. c.in_ok-insert.ensures.updates.0 k) q is

pub returns-clause-others : goal.returns-clause-others
returns-clause-others c = λ q apart. updated_others c.args.self.now.known c.insert.new.self c.args.text c.tail_of.result c.args.number c.tail_of.ensures (λ k. c.in_ok-insert.ensures.updates.0 k) q apart
