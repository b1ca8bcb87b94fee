-- The least position is below the bound if some position is.
use Rattle.cert_graph.specs.Adequate.{row_of}
use Rattle.cert_graph.specs.Nodes.{graph_of}
use Rattle.cert_graph.specs.Steps.{MayTake}
use Rattle.cert_graph.proofs.Looking.{below_iff}
use Rattle.cert_graph.proofs.TableFacts.{refuted}
use Rattle.cert_graph.proofs.lookup.Lookup.may_take_below.Goals as goal

pub returns-in-Some : goal.returns-in-Some
returns-in-Some c = λ nodes rows h within. below_iff (MayTake (graph_of nodes) (row_of rows c.args.row) c.args.certificate c.args.count) c.in-Some.next c.args.bound (c.in-Some.ensures nodes rows h within)

pub returns-in-None : goal.returns-in-None
returns-in-None c = λ nodes rows h within. refuted (λ x. c.in-None.ensures nodes rows h within x.0 x.2)
