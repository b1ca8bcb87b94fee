use Rattle.std.proofs.Common.{length}
use Rattle.cert_questions.proofs.Asked.{AskedUpTo}
use Rattle.cert_questions.proofs.asking.questions.Given as goal

abbrev pub invariant-loop-item : goal.invariant-loop-item
invariant-loop-item l = AskedUpTo l.one-items l.all.items (length l.one-items) l.item l.questions.items
