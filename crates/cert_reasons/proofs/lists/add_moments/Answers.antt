use Rattle.std.proofs.Common.{false, [], arith}
use Rattle.std.specs.Prelude.{IsTrue}
use Rattle.cert_judge.specs.Vouching.{vouching_alone}
use Rattle.cert_judge.specs.Items.{list_of, list_item, rules_by}
use Rattle.cert_reasons.specs.Lists.{HasListReason, list_order}
use Rattle.cert_reasons.proofs.Ordered.{up_next}
use Rattle.cert_reasons.proofs.OfLists.{alone_place}
use Rattle.cert_reasons.proofs.lists.add_moments.Goals as goal

pub add-requires-2 : goal.add-requires-2
add-requires-2 c = up_next list_order (HasListReason (rules_by c.args.moment.now false (vouching_alone (λ k i. IsTrue c.args.vouched))) [] (list_item c.args.list.now) (list_of c.args.list.now)) c.add.new.found.items 0 1 c.in_ok-add.ensures (λ r s e. alone_place r 0 e (omega arith))

pub add-requires-3 : goal.add-requires-3
add-requires-3 c = up_next list_order (HasListReason (rules_by c.args.moment.now false (vouching_alone (λ k i. IsTrue c.args.vouched))) [] (list_item c.args.list.now) (list_of c.args.list.now)) c.add-2.new.found.items 1 1 c.in_ok-add-2.ensures (λ r s e. alone_place r 1 e (omega arith))

pub add-requires-4 : goal.add-requires-4
add-requires-4 c = up_next list_order (HasListReason (rules_by c.args.moment.now false (vouching_alone (λ k i. IsTrue c.args.vouched))) [] (list_item c.args.list.now) (list_of c.args.list.now)) c.add-3.new.found.items 2 1 c.in_ok-add-3.ensures (λ r s e. alone_place r 2 e (omega arith))

pub returns : goal.returns
returns c = up_next list_order (HasListReason (rules_by c.args.moment.now false (vouching_alone (λ k i. IsTrue c.args.vouched))) [] (list_item c.args.list.now) (list_of c.args.list.now)) c.add-4.new.found.items 3 1 c.in_ok-add-4.ensures (λ r s e. alone_place r 3 e (omega arith))
