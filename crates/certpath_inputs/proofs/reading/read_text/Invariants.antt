-- The text is what was read, no read failed or met the end, and each asked for the whole buffer.
use Rattle.certpath_inputs.proofs.reading.read_text.Given as goal
use Rattle.std.specs.Io.KnownBytes.{Consumes}
use Rattle.certpath_inputs.specs.declared.reading.TheConstants.{READ_SIZE}
use Rattle.std.proofs.Common.{◌≡◌, ◌+◌, ◌≤◌, max, vec_len}

abbrev pub invariant-loop : goal.invariant-loop
invariant-loop g l = record {
  stream : Consumes (g.R.Source.remaining l.initial.reader) (g.R.Source.remaining l.reader) l.text.items;
  failures : g.R.Source.failures l.reader ≡ g.R.Source.failures l.initial.reader;
  ends : g.R.Source.ends l.reader ≡ g.R.Source.ends l.initial.reader;
  reads : g.R.Source.reads l.reader ≡ g.R.Source.reads l.initial.reader + l.counter;
  widest : g.R.Source.widest l.reader ≤ max (g.R.Source.widest l.initial.reader) READ_SIZE;
  room : vec_len l.buffer ≡ READ_SIZE;
}
