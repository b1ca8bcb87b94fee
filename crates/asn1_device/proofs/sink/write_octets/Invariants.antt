-- What is gone from `rest` was appended, and nothing failed.
use Rattle.std.proofs.Common.{◌≡◌, length}
use Rattle.asn1_device.proofs.Writing.{Written}
use Rattle.asn1_device.proofs.sink.write_octets.Given as goal

abbrev pub invariant-loop-rest : goal.invariant-loop-rest
invariant-loop-rest g l = record {
  written : Written (g.W.Sink.contents l.initial.writer) (g.W.Sink.contents l.writer) l.initial.rest l.rest;
  failures : g.W.Sink.failures l.writer ≡ g.W.Sink.failures l.initial.writer;
  flushes : g.W.Sink.flushes l.writer ≡ g.W.Sink.flushes l.initial.writer;
}

abbrev pub decreases-loop-rest : goal.decreases-loop-rest
decreases-loop-rest g l = length l.rest
