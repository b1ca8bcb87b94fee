use Rattle.std.proofs.Common.{rules, sym, ◌∙◌}
use Rattle.certpath_inputs.proofs.Feeding.{pairs_more, front_of_buffer, widest_stays}
use Rattle.certpath_inputs.proofs.reading.read_pairs.Goals as goal

pub loop-preserved : goal.loop-preserved
loop-preserved g c =
    let room = c.read.auto.buf ∙ c.deref_mut.ensures.len in
    let read = front_of_buffer c.in-Ok-read.count _ _ _ _ room c.deref.ensures.value in
    record {
      stream = pairs_more _ _ _ _ _ _ _ c.loop.invariant.stream c.in-Ok-read.ensures.octets.0 read c.feed.ensures.takes;
      failures = search rules;
      ends = search rules;
      reads = search rules;
      widest = widest_stays _ _ _ _ _ c.read.ensures.widest c.loop.invariant.widest (room ∙ c.loop.invariant.room);
      room = c.loop.invariant.room;
    }
