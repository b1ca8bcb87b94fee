use Rattle.std.proofs.Common.{List, take}
use Rattle.cert_model.specs.View.{time_view}
use Rattle.cert_judge.specs.Revoking.{Item}
use Rattle.cert_judge.specs.Classed.{AreClassed}
use Rattle.cert_judge.specs.JudgedItems.{AreJudged}
use Rattle.cert_judge.proofs.reading.judged_items.Given as goal

abbrev pub invariant-loop-place : goal.invariant-loop-place
invariant-loop-place g l = (classed : List Item) × AreClassed (take l.place l.items.items) classed × AreJudged (time_view l.moment) classed l.judged.items
