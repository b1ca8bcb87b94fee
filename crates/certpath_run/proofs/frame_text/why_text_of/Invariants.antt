-- The text has the lines of the items so far.
use Rattle.std.proofs.Common.{string_bytes}
use Rattle.certpath_run.proofs.FrameFacts.{WritesWhy}
use Rattle.certpath_run.proofs.frame_text.why_text_of.Given as goal

abbrev pub invariant-loop-k : goal.invariant-loop-k
invariant-loop-k l = WritesWhy (string_bytes l.text) l.items.items l.k l.offset
