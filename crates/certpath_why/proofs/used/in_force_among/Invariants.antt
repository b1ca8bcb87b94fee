use Rattle.cert_graph.specs.Entries.{IsAt}
use Rattle.cert_graph.proofs.Sifted.{Sifted}
use Rattle.cert_judge.specs.Items.{IsListWith}
use Rattle.certpath_why.specs.Used.{IsCurrentAndPlain}
use Rattle.certpath_why.proofs.used.in_force_among.Given as goal

abbrev pub invariant-loop-place : goal.invariant-loop-place
invariant-loop-place l = Sifted 0 (λ p. IsAt l.items p (IsListWith (IsCurrentAndPlain l.moment))) l.lists l.place-index l.found.items
