use Rattle.std.proofs.Common.{◌≡◌, ◌∙◌, ap, sym, length, get_or, None, arith}
use Rattle.cert_graph.specs.declared.places.Part.TheVariants.{Key}
use Rattle.cert_graph.specs.Places.{shown, text_at, Shows}
use Rattle.cert_graph.proofs.Sifted.{sifted_whole}
use Rattle.cert_questions.specs.Firsts.{IsFirstAmong}
use Rattle.cert_questions.proofs.FirstPlaces.{without_key, new_key, old_key}
use Rattle.cert_questions.proofs.firsts.firsts_of.Goals as goal
use Rattle.cert_questions.proofs.firsts.firsts_of.Goals.{in-Some+in_ok-insert+then-branch+in_ok-push, in-Some+in_ok-insert+else-branch, in_default}

pub loop-place-preserved : goal.loop-place-preserved
loop-place-preserved c =
    let all = c.args.all.now in
    let places = c.args.places.now in
    let k = c.loop-place.place-index in
    let v = get_or places k 0 in
    let old = c.loop-place.seen in
    let firsts = c.loop-place.firsts.items in
    elim c.match-key_at.branch [
      | in-Some+in_ok-insert+then-branch+in_ok-push w ↦
          let shows : Shows Key all v w.in-Some.key.now = sym c.key_at.ensures ∙ ap shown w.in-Some.is in
          rw (w.seen-is, w.firsts-is, w.in_ok-push.ensures.items)
          (new_key all places k w.in-Some.key old w.insert.new.self firsts w.in_ok-insert.field-0 c.requires c.loop-place-test.true shows w.in_ok-insert.ensures.added w.if-branch.true (λ q. w.in_ok-insert.ensures.updates.0 q) c.loop-place.invariant)
      | in-Some+in_ok-insert+else-branch w ↦
          let shows : Shows Key all v w.in-Some.key.now = sym c.key_at.ensures ∙ ap shown w.in-Some.is in
          rw (w.seen-is, w.firsts-is)
          (old_key all places k w.in-Some.key old w.insert.new.self firsts w.in_ok-insert.field-0 c.requires c.loop-place-test.true shows w.in_ok-insert.ensures.added w.if-branch.false (λ q. w.in_ok-insert.ensures.updates.0 q) c.loop-place.invariant)
      | in_default w ↦
          let none : text_at Key all v ≡ None = sym c.key_at.ensures ∙ ap shown w.in_default.is in
          rw (w.seen-is, w.firsts-is) (without_key all places k old firsts none c.loop-place.invariant)
    ]

pub returns-clause-exact : goal.returns-clause-exact
returns-clause-exact c =
    let end : c.loop-place.place-index ≡ length c.args.places.now = omega arith in
    sifted_whole (IsFirstAmong c.args.all.now c.args.places.now) c.args.places.now c.loop-place.place-index c.loop-place.firsts.items end c.loop-place.invariant.sifted
