use Rattle.std.proofs.Common.{false, []}
use Rattle.std.specs.Prelude.{IsTrue}
use Rattle.cert_judge.specs.Vouching.{vouching_alone}
use Rattle.cert_judge.specs.Items.{list_of, list_item, rules_by}
use Rattle.cert_reasons.specs.Lists.{HasListReason, list_order}
use Rattle.cert_reasons.specs.Order.{AreUpTo}
use Rattle.cert_reasons.proofs.lists.add_of_entries.Given as goal

abbrev pub invariant-loop-place : goal.invariant-loop-place
invariant-loop-place l = AreUpTo list_order (HasListReason (rules_by l.moment false (vouching_alone (λ k i. IsTrue l.vouched))) [] (list_item l.list) (list_of l.list)) (5, l.place) l.found.items
