use Rattle.cert_graph.proofs.Sifted.{Sifted}
use Rattle.certpath_why.specs.Revoked.{IsHeldIn}
use Rattle.certpath_why.proofs.Revokers.{AreAdded}
use Rattle.certpath_why.proofs.revoked.add_places.Given as goal

abbrev pub invariant-loop-place : goal.invariant-loop-place
invariant-loop-place l = Sifted 0 (λ w. IsHeldIn l.initial.met w → ⊥) l.places l.place-index l.new.items × AreAdded l.places l.place-index l.initial.met l.met
