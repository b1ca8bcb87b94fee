use Rattle.std.proofs.Common.{◌≡◌, ◌+◌, ◌<◌, ℕ, length, Contains, arith, sym, subst}
use Rattle.std.specs.Prelude.{◌↔◌}
use Rattle.std.specs.List.Sorted.{IsStrictlyIncreasing}
use Rattle.cert_graph.specs.declared.places.Part.TheVariants.{Id}
use Rattle.cert_graph.specs.Places.{Shows}
use Rattle.cert_graph.specs.Buckets.{AreBuckets}
use Rattle.cert_graph.specs.Links.{Adds}
use Rattle.cert_graph.proofs.Adding.{adds_as}
use Rattle.cert_graph.proofs.Placing.{ids_all, ids_more, all_below, bucket_ascends, same_nothing}
use Rattle.cert_graph.proofs.groups.link_ids.Goals as goal

pub between-requires : goal.between-requires
between-requires c =
    let S = Shows Id c.args.all.now in
    let h : AreBuckets S c.args.places.now c.deref-bucket-items.result.now = subst (AreBuckets S c.args.places.now) (sym c.deref-bucket-items.ensures.value) c.in_ok-buckets.ensures in
    subst IsStrictlyIncreasing (sym c.deref.ensures.value) (bucket_ascends S c.args.places.now c.deref-bucket-items.result.now c.loop-bucket.bucket-index c.bucket-item.result c.bucket-item.is c.loop-bucket-test.true h)

pub between-requires-in-loop-bucket : goal.between-requires-in-loop-bucket
between-requires-in-loop-bucket c =
    let S = Shows Id c.args.all.now in
    let h : AreBuckets S c.args.places.now c.deref-bucket-items.result.now = subst (AreBuckets S c.args.places.now) (sym c.deref-bucket-items.ensures.value) c.in_ok-buckets.ensures in
    subst IsStrictlyIncreasing (sym c.deref-in-loop-bucket.ensures.value) (bucket_ascends S c.args.places.now c.deref-bucket-items.result.now c.loop-bucket.bucket-index c.bucket-item.result c.bucket-item.is c.loop-bucket-test.true h)

pub push_group-requires-clause-members_within : goal.push_group-requires-clause-members_within
push_group-requires-clause-members_within c = all_below c.args.items c.in_ok-owners.owners.items (λ w h. ((c.in_ok-owners.ensures.exact w).0 h).1)

pub push_group-requires-clause-issued_within : goal.push_group-requires-clause-issued_within
push_group-requires-clause-issued_within c = all_below c.args.items c.in_ok-issued.issued.items (λ w h. ((c.in_ok-issued.ensures.exact w).0 h).1)

pub loop-bucket-preserved : goal.loop-bucket-preserved
loop-bucket-preserved c =
    let n = c.args.items in
    let b = c.bucket-item.result in
    let issued = c.in_ok-issued.issued.items in
    let owners = c.in_ok-owners.owners.items in
    let i : (v : ℕ) → Contains issued v ↔ (Contains b.places.items (0 + v) × (v < n)) = subst (λ l. (v : ℕ) → Contains issued v ↔ (Contains l (0 + v) × (v < n))) c.deref.ensures.value c.in_ok-issued.ensures.exact in
    let o : (w : ℕ) → Contains owners w ↔ (Contains b.places.items (n + w) × (w < n)) = subst (λ l. (w : ℕ) → Contains owners w ↔ (Contains l (n + w) × (w < n))) c.deref-in-loop-bucket.ensures.value c.in_ok-owners.ensures.exact in
    let more = subst (λ l. Adds n c.loop-bucket.groups.items c.push_group.new.groups.items (λ v w. Contains issued v × Contains owners w) (λ v a. Contains issued v × Contains l a)) c.new.ensures.items c.in_ok-push_group.ensures in
    ids_more n c.args.groups.now.items c.loop-bucket.groups.items c.push_group.new.groups.items c.deref-bucket-items.result.now c.loop-bucket.bucket-index b issued owners c.bucket-item.is c.loop-bucket-test.true i o c.loop-bucket.invariant more

pub returns : goal.returns
returns c =
    let S = Shows Id c.args.all.now in
    let bs = c.deref-bucket-items.result.now in
    let h : AreBuckets S c.args.places.now bs = subst (AreBuckets S c.args.places.now) (sym c.deref-bucket-items.ensures.value) c.in_ok-buckets.ensures in
    let end : c.loop-bucket.bucket-index ≡ length bs = omega arith in
    adds_as c.args.items c.args.groups.now.items c.loop-bucket.groups.items _ _ _ _ c.loop-bucket.invariant (ids_all c.args.all.now c.args.items c.args.places.now bs c.loop-bucket.bucket-index end h) same_nothing
