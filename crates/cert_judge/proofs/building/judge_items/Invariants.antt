use Rattle.std.proofs.Common.{map}
use Rattle.cert_model.specs.View.{time_view}
use Rattle.cert_judge.specs.Items.{item_of}
use Rattle.cert_judge.proofs.Agreement.{JudgedUpTo}
use Rattle.cert_judge.proofs.building.judge_items.Given as goal

abbrev pub invariant-loop-item : goal.invariant-loop-item
invariant-loop-item l = JudgedUpTo (time_view l.moment) (map item_of l.items) l.judged.items l.item-index
