-- The lines of the items so far have passed, or are held, and nothing failed.
use Rattle.std.proofs.Common.{◌≡◌, ◌≤◌, vec_capacity}
use Rattle.certpath_run.specs.declared.frame_pieces.TheConstants.{PIECE}
use Rattle.certpath_run.proofs.PieceFacts.{PassedLines}
use Rattle.certpath_run.proofs.frame_pieces.write_items.Given as goal

abbrev pub invariant-loop-k : goal.invariant-loop-k
invariant-loop-k g l = record {
  passed : PassedLines (g.W.Sink.contents l.initial.writer) (g.W.Sink.contents l.writer) l.piece.items l.items.items l.k l.offset;
  room : PIECE ≤ vec_capacity l.piece;
  failures : g.W.Sink.failures l.writer ≡ g.W.Sink.failures l.initial.writer;
  flushes : g.W.Sink.flushes l.writer ≡ g.W.Sink.flushes l.initial.writer;
}
