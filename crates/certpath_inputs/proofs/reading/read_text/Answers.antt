use Rattle.std.proofs.Common.{rules, sym, ◌∙◌}
use Rattle.certpath_inputs.proofs.Feeding.{text_more, front_of_buffer, widest_stays}
use Rattle.certpath_inputs.proofs.reading.read_text.Goals as goal

pub loop-preserved : goal.loop-preserved
loop-preserved g c =
    let room = c.read.auto.buf ∙ c.deref_mut.ensures.len in
    let read = front_of_buffer c.in-Ok-read.count _ _ _ _ room c.deref.ensures.value in
    record {
      stream = text_more c.extend_from_slice.result _ _ _ _ _ _ _ c.loop.invariant.stream c.in-Ok-read.ensures.octets.0 c.extend_from_slice.ensures.items (sym c.is_err.ensures.value ∙ c.if-is_err.false) read;
      failures = search rules;
      ends = search rules;
      reads = search rules;
      widest = widest_stays _ _ _ _ _ c.read.ensures.widest c.loop.invariant.widest (room ∙ c.loop.invariant.room);
      room = c.loop.invariant.room;
    }
