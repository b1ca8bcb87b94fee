use Rattle.cert_graph.specs.Places.{Shows}
use Rattle.cert_graph.specs.Texts.{number_of}
use Rattle.cert_graph.proofs.Gathering.{Gathered}
use Rattle.cert_graph.proofs.buckets.alike.Given as goal

abbrev pub invariant-loop-place : goal.invariant-loop-place
invariant-loop-place l = Gathered (Shows l.part l.all) l.chosen l.place-index (number_of l.known) l.buckets.items
