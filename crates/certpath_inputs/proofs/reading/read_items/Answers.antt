use Rattle.std.proofs.Common.{rules, sym, ◌∙◌}
use Rattle.certpath_inputs.proofs.Feeding.{reads_more, front_of_buffer, feeds, widest_stays}
use Rattle.certpath_inputs.proofs.reading.read_items.Goals as goal

pub loop-preserved : goal.loop-preserved
loop-preserved g c =
    let room = c.read.auto.buf ∙ c.deref_mut.ensures.len in
    let read = front_of_buffer c.in-Ok-read.count _ _ _ _ room c.deref.ensures.value in
    let fed = feeds c.feed.result _ _ _ _ c.feed.ensures.ok (sym c.is_err.ensures.value ∙ c.if-is_err.false) read in
    record {
      stream = reads_more _ _ _ _ _ _ _ c.loop.invariant.stream c.in-Ok-read.ensures.octets.0 fed c.feed.ensures.limit;
      failures = search rules;
      ends = search rules;
      reads = search rules;
      widest = widest_stays _ _ _ _ _ c.read.ensures.widest c.loop.invariant.widest (room ∙ c.loop.invariant.room);
      room = c.loop.invariant.room;
    }
