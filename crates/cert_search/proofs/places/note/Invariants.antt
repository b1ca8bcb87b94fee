use Rattle.std.proofs.Common.{take}
use Rattle.cert_search.proofs.Placing.{NotedSoFar, lists_of}
use Rattle.cert_search.proofs.places.note.Given as goal

abbrev pub invariant-loop-w : goal.invariant-loop-w
invariant-loop-w l = NotedSoFar l.nodes (take l.w-index l.w-items) l.place (lists_of l.fn.places) (lists_of l.places)
