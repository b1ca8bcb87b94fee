use Rattle.std.proofs.Common.{false, [], arith, length, ◌≤◌}
use Rattle.std.specs.Prelude.{IsTrue}
use Rattle.cert_judge.specs.Vouching.{vouching_alone}
use Rattle.cert_judge.specs.Items.{list_of, list_item, rules_by}
use Rattle.cert_reasons.specs.Lists.{HasListReason, list_order}
use Rattle.std.proofs.lemmas.List.{length-map}
use Rattle.cert_model.specs.View.{entry_view}
use Rattle.cert_reasons.proofs.Ordered.{up_next}
use Rattle.cert_reasons.proofs.OfLists.{entry_place}
use Rattle.cert_reasons.proofs.lists.add_of_entries.Goals as goal

pub returns : goal.returns
returns c =
    let long = length-map c.args.list.now.fields.entries.items entry_view in
    let over = rw c.as_slice-entries.ensures.value at c.loop-place-test.false in
    let end : length (list_of c.args.list.now).entries ≤ c.loop-place.place = omega arith in
    up_next list_order (HasListReason (rules_by c.args.moment.now false (vouching_alone (λ k i. IsTrue c.args.vouched))) [] (list_item c.args.list.now) (list_of c.args.list.now)) c.loop-place.found.items 5 c.loop-place.place c.loop-place.invariant (λ r s e. entry_place (rules_by c.args.moment.now false (vouching_alone (λ k i. IsTrue c.args.vouched))) [] (list_item c.args.list.now) (list_of c.args.list.now) r c.loop-place.place s e end)
