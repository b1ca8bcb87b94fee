use Rattle.certpath_why.specs.Classes.{AreKnown, AreNumbersOf}
use Rattle.certpath_why.proofs.classes.classes_of.Given as goal

abbrev pub invariant-loop-text : goal.invariant-loop-text
invariant-loop-text l = AreKnown l.texts.items l.known × AreNumbersOf l.all l.texts.items l.text-index l.numbers.items
