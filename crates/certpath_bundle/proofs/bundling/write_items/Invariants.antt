use Rattle.std.proofs.Common.{◌≡◌}
use Rattle.certpath_bundle.specs.Views.{found_view}
use Rattle.certpath_bundle.proofs.Writing.{Wrote}
use Rattle.certpath_bundle.proofs.bundling.write_items.Given as goal

abbrev pub invariant-loop-one : goal.invariant-loop-one
invariant-loop-one g l = record {
  wrote : Wrote (λ one. (found_view one).held.octets) l.found l.one-index (g.W.Sink.contents l.initial.writer) (g.W.Sink.contents l.writer);
  failures : g.W.Sink.failures l.writer ≡ g.W.Sink.failures l.initial.writer;
  flushes : g.W.Sink.flushes l.writer ≡ g.W.Sink.flushes l.initial.writer;
}
