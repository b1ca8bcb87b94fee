use Rattle.std.proofs.Common.{◌≡◌, ◌∙◌, sym, subst, List, length, arith}
use Rattle.std.specs.List.Sorted.{IsStrictlyIncreasing}
use Rattle.cert_graph.specs.declared.buckets.Bucket.{Bucket}
use Rattle.cert_graph.specs.declared.places.Part.TheVariants.{Name}
use Rattle.cert_graph.specs.Places.{Shows}
use Rattle.cert_graph.specs.Buckets.{AreBuckets}
use Rattle.certpath_why.proofs.Holding.{holders_none, holders_more, holders_all, named_iff, chosen_of, shows_below}
use Rattle.certpath_why.proofs.holders.holders_of.Goals as goal

pub add_name-requires-clause-places : goal.add_name-requires-clause-places
add_name-requires-clause-places g c =
    let are = subst (λ (l : List Bucket). AreBuckets (Shows Name c.args.members.now) c.in_ok-all.all.items l) (sym c.deref-name-items.ensures.value) (rw c.deref.ensures.value at c.in_ok-names.ensures) in
    subst (λ (x : Bucket). IsStrictlyIncreasing x.places.items) (sym c.name-item.is) ((are.each c.loop-name.name-index c.name-item.result c.loop-name-test.true).ascends)

pub add_name-requires-clause-chosen : goal.add_name-requires-clause-chosen
add_name-requires-clause-chosen g c = rw c.deref-in-loop-name-3.ensures.value c.in_ok-chosen.ensures.ascend

pub loop-name-init : goal.loop-name-init
loop-name-init g c = λ issued octets d is.
    holders_none (g.V.Vouch.vouches_for c.args.vouch.now).Vouches issued c.args.members.now octets c.args.classes.now is c.deref-name-items.result.now _ c.new.ensures.items (c.in_ok-rows.ensures.count ∙ c.len.ensures ∙ c.args.classes.now.texts.ok.0) c.in_ok-rows.ensures.empty

pub loop-name-preserved : goal.loop-name-preserved
loop-name-preserved g c = λ issued octets d is.
    let V = (g.V.Vouch.vouches_for c.args.vouch.now).Vouches in
    let members = c.args.members.now in
    let classes = c.args.classes.now in
    let names = c.deref-name-items.result.now in
    let name = c.name-item.result in
    let are = subst (λ (l : List Bucket). AreBuckets (Shows Name members) c.in_ok-all.all.items l) (sym c.deref-name-items.ensures.value) (rw c.deref.ensures.value at c.in_ok-names.ensures) in
    let places = c.positions-places.ensures issued d in
    holders_more V issued members octets classes is names c.loop-name.name-index name c.in_ok-chosen.chosen.items c.loop-name.holders c.add_name.new.holders c.loop-name-test.true c.name-item.is
    (named_iff members c.in_ok-all.all.items names c.loop-name.name-index name c.in_ok-all.ensures.exact are c.loop-name-test.true c.name-item.is)
    (chosen_of issued octets classes is name.text.now c.positions-places.result.now c.in_ok-chosen.chosen.items places.exact (rw c.deref-in-loop-name.ensures.value at c.in_ok-chosen.ensures.all))
    (c.loop-name.invariant issued octets d is) (rw (c.deref-in-loop-name-2.ensures.value, c.deref-in-loop-name-3.ensures.value) at c.in_ok-add_name.ensures)

pub returns : goal.returns
returns g c = λ issued octets d is.
    let V = (g.V.Vouch.vouches_for c.args.vouch.now).Vouches in
    let members = c.args.members.now in
    let names = c.deref-name-items.result.now in
    let are = subst (λ (l : List Bucket). AreBuckets (Shows Name members) c.in_ok-all.all.items l) (sym c.deref-name-items.ensures.value) (rw c.deref.ensures.value at c.in_ok-names.ensures) in
    let end : c.loop-name.name-index ≡ length names = omega arith in
    holders_all V issued members octets c.args.classes.now is names c.in_ok-all.all.items c.loop-name.name-index c.loop-name.holders c.in_ok-all.ensures.exact are end (shows_below Name members) (c.loop-name.invariant issued octets d is)
