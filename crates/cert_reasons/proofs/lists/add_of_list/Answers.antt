use Rattle.std.proofs.Common.{false, [], arith, length, ◌≤◌}
use Rattle.std.specs.Prelude.{IsTrue}
use Rattle.cert_judge.specs.Vouching.{vouching_alone}
use Rattle.cert_judge.specs.Items.{list_of, list_item, rules_by}
use Rattle.cert_reasons.specs.Lists.{HasListReason, list_order}
use Rattle.std.proofs.lemmas.List.{length-map}
use Rattle.cert_model.specs.View.{ext_view}
use Rattle.cert_reasons.proofs.Ordered.{up_next}
use Rattle.cert_reasons.proofs.OfLists.{extension_place}
use Rattle.cert_reasons.proofs.lists.add_of_list.Goals as goal

pub returns : goal.returns
returns c =
    let long = length-map c.args.list.now.fields.extensions.items ext_view in
    let over = rw c.as_slice-extensions.ensures.value at c.loop-place-test.false in
    let end : length (list_of c.args.list.now).extensions ≤ c.loop-place.place = omega arith in
    up_next list_order (HasListReason (rules_by c.args.moment.now false (vouching_alone (λ k i. IsTrue c.args.vouched))) [] (list_item c.args.list.now) (list_of c.args.list.now)) c.loop-place.found.items 4 c.loop-place.place c.loop-place.invariant (λ r s e. extension_place (rules_by c.args.moment.now false (vouching_alone (λ k i. IsTrue c.args.vouched))) [] (list_item c.args.list.now) (list_of c.args.list.now) r c.loop-place.place s e end)
