use Rattle.std.proofs.Common.{◌≡◌}
use Rattle.std.specs.Prelude.{is_some}
use Rattle.cert_graph.specs.Places.{text_at}
use Rattle.cert_graph.specs.declared.places.Part.TheVariants.{Id}
use Rattle.cert_graph.proofs.Sifted.{Sifted}
use Rattle.cert_graph.proofs.sifting.identified.Given as goal

abbrev pub invariant-loop-place : goal.invariant-loop-place
invariant-loop-place l = Sifted 0 (λ v. is_some (text_at Id l.all v) ≡ l.shown) l.chosen l.place-index l.found.items
