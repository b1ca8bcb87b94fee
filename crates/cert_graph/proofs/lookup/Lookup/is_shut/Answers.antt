-- The least issuer that the row reaches, or none.
use Rattle.cert_graph.specs.Adequate.{row_of}
use Rattle.cert_graph.specs.Nodes.{graph_of}
use Rattle.cert_graph.proofs.Looking.{shut_some, shut_none}
use Rattle.cert_graph.proofs.TableFacts.{refuted, granted}
use Rattle.cert_graph.proofs.lookup.Lookup.is_shut.Goals as goal

pub returns-in-Some : goal.returns-in-Some
returns-in-Some c = λ nodes rows h within. refuted (shut_some (graph_of nodes) (row_of rows c.args.row) c.args.certificate c.in-Some.field-0 (c.in-Some.ensures nodes rows h within).0)

pub returns-in-None : goal.returns-in-None
returns-in-None c = λ nodes rows h within. granted (shut_none (graph_of nodes) (row_of rows c.args.row) c.args.certificate (c.in-None.ensures nodes rows h within))
