-- The items so far that are other are counted.
use Rattle.fault_texts.proofs.FaultFacts.{Counted}
use Rattle.fault_texts.proofs.lines.count_others.Given as goal

abbrev pub invariant-loop-item : goal.invariant-loop-item
invariant-loop-item l = Counted l.items l.item-index l.count
