-- A path that begins with the target and goes on to the anchor.
use Rattle.std.proofs.Common.{◌-◌, length, take, drop, rules}
use Rattle.cert_graph.specs.Nodes.{graph_of}
use Rattle.cert_graph.proofs.NodeFacts.{fit_is_usable}
use Rattle.cert_graph.proofs.Checks.{rest_is, valid_iff}
use Rattle.cert_graph.proofs.shown.is_valid_path.Goals as goal

pub returns : goal.returns
returns c =
    let positions = c.args.positions.now in
    valid_iff (graph_of c.args.nodes.now) (fit_is_usable c.args.nodes.now) c.args.target positions (take (length positions - 1) (drop 1 positions)) c.args.anchor (rest_is positions) (search rules)
    c.if-positions-target.false (c.is_usable.ensures.0 c.if-not-is_usable.false) c.lead_on.ensures
