use Rattle.std.proofs.Common.{rules, ◌≡◌, ◌∙◌, [], ◌∷◌, length, get_or, Some, None, arith, sym, ap, refl}
use Rattle.cert_graph.specs.Places.{shown, text_at, Shows}
use Rattle.cert_graph.specs.Texts.{number_of}
use Rattle.cert_graph.proofs.Gathering.{gathered_none, gathered_same, gathered_known, gathered_new, gathered_all, one_text, shows_none}
use Rattle.cert_graph.proofs.buckets.alike.Goals as goal
use Rattle.cert_graph.proofs.buckets.alike.Goals.{in-Some+in-Some-get+in_ok-push_to-in-Some-get, in-Some+in-None+in_ok-insert-in-None+in_ok-places-in-None+in_ok-push-in-None, in_default}

pub push_to-requires : goal.push_to-requires
push_to-requires c = (c.loop-place.invariant.known c.in-Some.text c.in-Some-get.number (sym c.in-Some-get.ensures)).0

pub loop-place-init : goal.loop-place-init
loop-place-init c = rw c.new-buckets.ensures.items (gathered_none (Shows c.args.part c.args.all.now) c.args.chosen.now (number_of c.new-known.result) c.new-known.ensures)

pub loop-place-preserved : goal.loop-place-preserved
loop-place-preserved c =
    let S = Shows c.args.part c.args.all.now in
    let ps = c.args.chosen.now in
    let k = c.loop-place.place-index in
    let v = get_or ps k 0 in
    let one = one_text c.args.part c.args.all.now in
    let bs = c.loop-place.buckets.items in
    elim c.match-text_at.branch [
      | in-Some+in-Some-get+in_ok-push_to-in-Some-get w ↦
          let shows : S v w.in-Some.text.now = sym c.text_at.ensures ∙ ap shown w.in-Some.is in
          let s = gathered_known S one ps k v w.in-Some-get.number (number_of c.loop-place.known) w.in-Some.text bs w.push_to.new.buckets.items c.requires c.loop-place-test.true refl shows (sym w.in-Some-get.ensures) w.in_ok-push_to-in-Some-get.ensures c.loop-place.invariant in
          rw (w.known-is, w.buckets-is) s
      | in-Some+in-None+in_ok-insert-in-None+in_ok-places-in-None+in_ok-push-in-None w ↦
          let shows : S v w.in-Some.text.now = sym c.text_at.ensures ∙ ap shown w.in-Some.is in
          let places : w.in_ok-places-in-None.places.items ≡ v ∷ [] = search rules in
          let len : w.len.result ≡ length bs = search rules in
          let s = gathered_new S one ps k v (number_of c.loop-place.known) (number_of w.insert.new.self) w.in-Some.text bs _ refl shows (sym w.in-None.ensures) (λ q e. w.in_ok-insert-in-None.ensures.own q e ∙ ap Some len) w.in_ok-insert-in-None.ensures.others refl places c.loop-place.invariant in
          rw (w.known-is, w.buckets-is, w.in_ok-push-in-None.ensures.items) s
      | in_default w ↦
          let none : text_at c.args.part c.args.all.now v ≡ None = sym c.text_at.ensures ∙ ap shown w.in_default.is in
          rw (w.known-is, w.buckets-is) (gathered_same S ps k v (number_of c.loop-place.known) bs refl (shows_none c.args.part c.args.all.now v none) c.loop-place.invariant)
    ]

pub returns : goal.returns
returns c =
    let all : c.loop-place.place-index ≡ length c.args.chosen.now = omega arith in
    gathered_all (Shows c.args.part c.args.all.now) c.args.chosen.now c.loop-place.place-index (number_of c.loop-place.known) c.loop-place.buckets.items all c.loop-place.invariant
