-- The least anchor is below the bound if some anchor is.
use Rattle.cert_graph.specs.Nodes.{LinksToAnchor}
use Rattle.cert_graph.proofs.Looking.{below_iff}
use Rattle.cert_graph.proofs.TableFacts.{refuted}
use Rattle.cert_graph.proofs.lookup.Lookup.has_anchor_below.Goals as goal

pub returns-in-Some : goal.returns-in-Some
returns-in-Some c = below_iff (LinksToAnchor c.args.nodes.now c.args.certificate) c.in-Some.anchor c.args.bound c.in-Some.ensures

pub returns-in-None : goal.returns-in-None
returns-in-None c = refuted (λ x. c.in-None.ensures x.0 x.2)
