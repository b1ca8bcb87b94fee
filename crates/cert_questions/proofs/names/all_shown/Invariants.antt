use Rattle.std.proofs.Common.{List, take}
use Rattle.cert_judge.specs.Revoking.{Item}
use Rattle.cert_judge.specs.Classed.{AreClassed}
use Rattle.cert_questions.specs.Places.{AreShown}
use Rattle.cert_questions.proofs.names.all_shown.Given as goal

abbrev pub invariant-loop-place : goal.invariant-loop-place
invariant-loop-place l = (classed : List Item) × AreClassed (take l.place l.items.items) classed × AreShown classed l.all.items
