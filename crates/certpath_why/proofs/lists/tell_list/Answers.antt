use Rattle.std.specs.Prelude.{IsTrue}
use Rattle.std.proofs.Common.{ap, sym, false, [], Some}
use Rattle.cert_judge.specs.declared.items.ReadItem.TheVariants.{List as list_read}
use Rattle.cert_judge.specs.Items.{list_of, list_item, rules_by}
use Rattle.cert_judge.specs.Vouching.{vouching_alone}
use Rattle.cert_reasons.specs.Lists.{HasListReason, HasReasonAmong, list_order}
use Rattle.cert_reasons.proofs.OfLists.{among_iff}
use Rattle.cert_reasons.proofs.Ordered.{all_as}
use Rattle.certpath_why.specs.Question.{anchors_in, items_in, rules_in}
use Rattle.certpath_why.proofs.Keyed.{keys_of, keys_all, signed_any}
use Rattle.certpath_why.proofs.Telling.{tells_list}
use Rattle.certpath_why.proofs.lists.tell_list.Goals as goal

pub is_signed_at-vouched-requires-clause-place : goal.is_signed_at-vouched-requires-clause-place
is_signed_at-vouched-requires-clause-place g c = c.requires.at.0

pub returns : goal.returns
returns g c =
    let q = c.args.question.now in
    let V = g.V.Vouch.vouches_for q.vouch.now in
    let p = q.policy.now in
    let l = c.args.list.now in
    let x = list_item l in
    let name = l.issuer.now in
    let items = items_in q in
    let anchors = anchors_in q in
    let keys = keys_of items anchors name in
    let are = keys_all items anchors name in
    let vouched = c.is_signed_at-vouched.result in
    let any = signed_any V.Vouches x name (ap Some (sym l.issuer_is)) items anchors keys are in
    let has = c.is_signed_at-vouched.ensures (list_read l) c.requires.at (ap Some (sym l.issuer_is)) in
    let all = all_as list_order (HasListReason (rules_by p.moment false (vouching_alone (λ k i. IsTrue vouched))) [] x (list_of l)) (HasReasonAmong (rules_by p.moment p.demand_lists V) keys x (list_of l)) c.in_ok-reasons.reasons.items
    (rw c.moment-moment.ensures at c.in_ok-reasons.ensures.all) (among_iff p.moment p.demand_lists V vouched keys x (list_of l) (λ t. any.0 (has.0 t), λ a. has.1 (any.1 a))) in
    tells_list (rules_in g.V.Vouch q) items anchors c.args.place l keys c.in_ok-reasons.reasons.items _ _ are all (rw c.deref.ensures.value at c.in_ok-push_list.ensures)
