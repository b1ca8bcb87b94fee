use Rattle.std.specs.Prelude.{◌↔◌}
use Rattle.std.proofs.Common.{◌≡◌, ◌∙◌, sym, subst, refl, ℕ, List, length, arith}
use Rattle.std.specs.BTreeMap.{get}
use Rattle.std.specs.List.{Contains}
use Rattle.std.specs.List.Sorted.{IsStrictlyIncreasing}
use Rattle.std.proofs.lemmas.List.{get_or_default}
use Rattle.cert_graph.specs.declared.places.Part.TheVariants.{Name}
use Rattle.cert_graph.specs.Places.{Shows}
use Rattle.cert_graph.proofs.Gathering.{R}
use Rattle.cert_judge.proofs.NamedFacts.{bucket_at, buckets_of}
use Rattle.cert_questions.specs.Firsts.{IsFirstAmong}
use Rattle.cert_questions.proofs.ByName.{firsts_under, named_more, bucket_named, knows_from}
use Rattle.cert_questions.proofs.firsts.KeyHolders.new.Goals as goal

pub firsts_of-requires : goal.firsts_of-requires
firsts_of-requires c =
    let all = c.args.all.now in
    let chosen = c.in_ok-chosen.chosen.items in
    let bs = c.deref-bucket-items.result.now in
    let h = buckets_of Name all all c.deref.result.now chosen c.in_ok-buckets.buckets.items bs refl c.deref.ensures.value c.deref-bucket-items.ensures.value c.in_ok-buckets.ensures in
    subst IsStrictlyIncreasing (sym c.deref-in-loop-number.ensures.value) (bucket_at (Shows Name all) chosen bs c.loop-number.number c.bucket-item.result c.bucket-item.is c.loop-number-test.true h).ascends

pub loop-number-preserved : goal.loop-number-preserved
loop-number-preserved c =
    let all = c.args.all.now in
    let chosen = c.in_ok-chosen.chosen.items in
    let bs = c.deref-bucket-items.result.now in
    let k = c.loop-number.number in
    let b = c.bucket-item.result in
    let h = buckets_of Name all all c.deref.result.now chosen c.in_ok-buckets.buckets.items bs refl c.deref.ensures.value c.deref-bucket-items.ensures.value c.in_ok-buckets.ensures in
    let own = bucket_at (Shows Name all) chosen bs k b c.bucket-item.is c.loop-number-test.true h in
    let whole = c.in_ok-chosen.ensures.exact in
    let row = c.in_ok-firsts_of.field-0 in
    let exact = subst (λ (l : List ℕ). (v : ℕ) → Contains row.items v ↔ (Contains l v × IsFirstAmong all l v)) c.deref-in-loop-number.ensures.value c.in_ok-firsts_of.ensures.exact in
    let firsts = firsts_under all b.text.now b.places.items row.items (bucket_named all chosen whole b own) c.in_ok-firsts_of.ensures.ascends exact in
    rw c.in_ok-push.ensures.items
    (named_more all bs k (get R c.loop-number.numbers) (get R c.insert.new.self) c.loop-number.firsts.items b row c.bucket-item.is (λ x. get_or_default bs k x b c.loop-number-test.true ∙ sym c.bucket-item.is) firsts (λ q. c.in_ok-insert.ensures.updates.0 q) c.loop-number.invariant)

pub returns : goal.returns
returns c =
    let all = c.args.all.now in
    let chosen = c.in_ok-chosen.chosen.items in
    let bs = c.deref-bucket-items.result.now in
    let h = buckets_of Name all all c.deref.result.now chosen c.in_ok-buckets.buckets.items bs refl c.deref.ensures.value c.deref-bucket-items.ensures.value c.in_ok-buckets.ensures in
    let whole = c.in_ok-chosen.ensures.exact in
    let end : c.loop-number.number ≡ length bs = omega arith in
    knows_from all chosen bs c.loop-number.number _ whole h end c.loop-number.invariant
