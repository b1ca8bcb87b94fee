use Rattle.cert_judge.proofs.Listed.{lists_of}
use Rattle.cert_judge.proofs.Copying.{CopiesUpTo}
use Rattle.cert_judge.proofs.copies.copies_of.Given as goal

abbrev pub invariant-loop-place : goal.invariant-loop-place
invariant-loop-place l = CopiesUpTo l.items l.places l.place-index l.firsts.items (lists_of l.lists.items)
