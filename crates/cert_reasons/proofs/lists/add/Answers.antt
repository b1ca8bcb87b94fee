use Rattle.std.proofs.Common.{false, []}
use Rattle.std.specs.Prelude.{IsTrue}
use Rattle.cert_judge.specs.Vouching.{vouching_alone}
use Rattle.cert_judge.specs.Items.{list_of, list_item, rules_by}
use Rattle.cert_reasons.specs.Lists.{HasListReason, list_order}
use Rattle.cert_judge.proofs.Mapped.{not_both}
use Rattle.cert_reasons.proofs.Ordered.{up_more, up_same}
use Rattle.cert_reasons.proofs.OfLists.{same_reason}
use Rattle.cert_reasons.proofs.lists.add.Goals as goal

pub returns-in_ok-push : goal.returns-in_ok-push
returns-in_ok-push c =
    rw c.in_ok-push.ensures.items (up_more list_order (HasListReason (rules_by c.args.moment.now false (vouching_alone (λ k i. IsTrue c.args.vouched))) [] (list_item c.args.list.now) (list_of c.args.list.now)) c.args.found.now.items c.args.reason (λ r e. same_reason r c.args.reason e) c.requires (c.has_list_reason.ensures.0 c.if-has_list_reason.true))

pub returns-else-has_list_reason : goal.returns-else-has_list_reason
returns-else-has_list_reason c =
    up_same list_order (HasListReason (rules_by c.args.moment.now false (vouching_alone (λ k i. IsTrue c.args.vouched))) [] (list_item c.args.list.now) (list_of c.args.list.now)) c.args.found.now.items c.args.reason (λ r e. same_reason r c.args.reason e) c.requires (λ s. not_both _ (c.has_list_reason.ensures.1 s) c.if-has_list_reason.false)
