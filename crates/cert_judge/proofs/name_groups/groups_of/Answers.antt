use Rattle.std.proofs.Common.{rules, ◌≡◌, ◌<◌, ℕ, List, [], length, arith, sym, subst}
use Rattle.std.specs.Prelude.{◌↔◌, Contains}
use Rattle.std.specs.List.Sorted.{IsStrictlyIncreasing}
use Rattle.cert_graph.specs.declared.places.Place.{Place}
use Rattle.cert_graph.specs.declared.places.Part.TheVariants.{Name, Key}
use Rattle.cert_graph.specs.Places.{Shows}
use Rattle.cert_graph.specs.Links.{Adds}
use Rattle.cert_graph.proofs.Adding.{adds_as}
use Rattle.cert_judge.specs.NamedLinks.{IsNamedLink, IsNamedAnchor}
use Rattle.cert_judge.proofs.PlaceFacts.{keyless}
use Rattle.cert_judge.proofs.NamedFacts.{bucket_at, buckets_of, name_more, named_by, all_names, all_anchor_names}
use Rattle.cert_judge.proofs.name_groups.groups_of.Goals as goal

pub link_name-requires-clause-ascends : goal.link_name-requires-clause-ascends
link_name-requires-clause-ascends g c =
    let S = Shows Name c.in_ok-all.all.items in
    let chosen = c.in_ok-chosen.chosen.items in
    let h = buckets_of Name c.deref.result.now c.in_ok-all.all.items c.deref-2.result.now chosen c.in_ok-buckets.buckets.items c.deref-bucket-items.result.now c.deref.ensures.value c.deref-2.ensures.value c.deref-bucket-items.ensures.value c.in_ok-buckets.ensures in
    subst IsStrictlyIncreasing (sym c.deref-in-loop-bucket-2.ensures.value) (bucket_at S chosen c.deref-bucket-items.result.now c.loop-bucket.bucket-index c.bucket-item.result c.bucket-item.is c.loop-bucket-test.true h).ascends

pub link_name-requires-clause-named : goal.link_name-requires-clause-named
link_name-requires-clause-named g c =
    let all = c.in_ok-all.all.items in
    let S = Shows Name all in
    let chosen = c.in_ok-chosen.chosen.items in
    let b = c.bucket-item.result in
    let h = buckets_of Name c.deref.result.now all c.deref-2.result.now chosen c.in_ok-buckets.buckets.items c.deref-bucket-items.result.now c.deref.ensures.value c.deref-2.ensures.value c.deref-bucket-items.ensures.value c.in_ok-buckets.ensures in
    let own = bucket_at S chosen c.deref-bucket-items.result.now c.loop-bucket.bucket-index b c.bucket-item.is c.loop-bucket-test.true h in
    let len : c.len.result ≡ length all = search rules in
    let whole = subst (λ k. (v : ℕ) → Contains chosen v ↔ (v < k)) len c.in_ok-chosen.ensures.exact in
    subst (λ l. (v : ℕ) → Contains l v ↔ Shows Name c.deref-in-loop-bucket.result.now v b.text.now) (sym c.deref-in-loop-bucket-2.ensures.value)
    (subst (λ (z : List Place). (v : ℕ) → Contains b.places.items v ↔ Shows Name z v b.text.now) (sym c.deref-in-loop-bucket.ensures.value)
    (named_by ((g.V.Vouch.vouches_for c.args.vouch.now).Vouches) c.args.demand_lists c.args.items.now all (length c.args.anchors.now) chosen whole b own))

pub link_name-requires-clause-keyless : goal.link_name-requires-clause-keyless
link_name-requires-clause-keyless g c =
    subst (λ (z : List Place). (v : ℕ) (key : List ℕ) → v < length c.args.items.now → Shows Key z v key → ⊥) (sym c.deref-in-loop-bucket.ensures.value)
    (subst (λ (z : List Place). (v : ℕ) (key : List ℕ) → v < length c.args.items.now → Shows Key z v key → ⊥) (sym c.in_ok-all.ensures) (keyless c.args.items.now c.args.anchors.now))

pub loop-bucket-preserved : goal.loop-bucket-preserved
loop-bucket-preserved g c =
    let V = (g.V.Vouch.vouches_for c.args.vouch.now).Vouches in
    let demand = c.args.demand_lists in
    let js = c.args.items.now in
    let m = length c.args.anchors.now in
    let all = c.in_ok-all.all.items in
    let b = c.bucket-item.result in
    let g1 = c.loop-bucket.groups.items in
    let g2 = c.link_name.new.groups.items in
    let more = subst (λ (z : List Place). Adds (length js) g1 g2 (IsNamedLink V demand js z b.text.now) (IsNamedAnchor V demand js z m b.text.now)) c.deref-in-loop-bucket.ensures.value c.in_ok-link_name.ensures in
    name_more V demand js all m [] g1 g2 c.deref-bucket-items.result.now c.loop-bucket.bucket-index b c.bucket-item.is c.loop-bucket-test.true c.loop-bucket.invariant more

pub returns : goal.returns
returns g c =
    let V = (g.V.Vouch.vouches_for c.args.vouch.now).Vouches in
    let demand = c.args.demand_lists in
    let js = c.args.items.now in
    let m = length c.args.anchors.now in
    let all = c.in_ok-all.all.items in
    let chosen = c.in_ok-chosen.chosen.items in
    let bs = c.deref-bucket-items.result.now in
    let h = buckets_of Name c.deref.result.now all c.deref-2.result.now chosen c.in_ok-buckets.buckets.items bs c.deref.ensures.value c.deref-2.ensures.value c.deref-bucket-items.ensures.value c.in_ok-buckets.ensures in
    let len : c.len.result ≡ length all = search rules in
    let whole = subst (λ k. (v : ℕ) → Contains chosen v ↔ (v < k)) len c.in_ok-chosen.ensures.exact in
    let end : c.loop-bucket.bucket-index ≡ length bs = omega arith in
    let done = adds_as (length js) [] c.loop-bucket.groups.items _ _ _ _ c.loop-bucket.invariant (all_names V demand js all m chosen whole bs c.loop-bucket.bucket-index h end)
    (all_anchor_names V demand js all m chosen whole bs c.loop-bucket.bucket-index h end) in
    subst (λ (z : List Place). Adds (length js) [] c.loop-bucket.groups.items (λ v w. (name : List ℕ) × IsNamedLink V demand js z name v w) (λ v a. (name : List ℕ) × IsNamedAnchor V demand js z m name v a)) c.in_ok-all.ensures done
