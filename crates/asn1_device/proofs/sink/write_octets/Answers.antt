use Rattle.std.proofs.Common.{rules}
use Rattle.asn1_device.proofs.Writing.{written_more}
use Rattle.asn1_device.proofs.sink.write_octets.Goals as goal

pub loop-rest-preserved : goal.loop-rest-preserved
loop-rest-preserved g c = record {
  written = written_more _ _ _ _ _ c.in_ok-count.count c.loop-rest.invariant.written c.in_ok-count.ensures.octets;
  failures = search rules;
  flushes = search rules;
}
