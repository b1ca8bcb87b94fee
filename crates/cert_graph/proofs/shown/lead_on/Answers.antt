-- A certificate that may not follow ends the path.
use Rattle.std.proofs.Common.{◌≡◌, true}
use Rattle.std.proofs.lemmas.Bool.{false≢true}
use Rattle.cert_graph.specs.Nodes.{graph_of}
use Rattle.cert_graph.proofs.Checks.{next_refused}
use Rattle.cert_graph.proofs.shown.lead_on.Goals as goal

pub returns-then-not-may_follow : goal.returns-then-not-may_follow
returns-then-not-may_follow c = (
  λ e. absurd (false≢true e),
  λ n. absurd (next_refused (graph_of c.args.nodes.now) c.loop-issuer.last c.loop-issuer.count c.args.issuers.now c.loop-issuer.issuer-index c.args.anchor c.loop-issuer-test.true
      (λ m. let yes : c.may_follow.result ≡ true = c.may_follow.ensures.1 m in cc) (c.loop-issuer.invariant.same.0 n)),
)
