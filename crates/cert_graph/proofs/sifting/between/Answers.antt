use Rattle.std.proofs.Common.{◌≡◌, ◌+◌, ◌-◌, ◌<◌, ℕ, length, get_or, arith}
use Rattle.cert_graph.proofs.Sifted.{sifted_more, sifted_same, sifted_all}
use Rattle.cert_graph.proofs.sifting.between.Goals as goal
use Rattle.cert_graph.proofs.sifting.between.Goals.{then-place-first+then-place-first-2+in_ok-push, else-place-first, else-place-first-via-then-place-first+else-place-first-2, else-place-first-via-else-place-first}

pub loop-place-preserved : goal.loop-place-preserved
loop-place-preserved c =
    let ps = c.args.chosen.now in
    let first = c.args.first in
    let C = λ (v : ℕ). v < c.args.count in
    let k = c.loop-place.place-index in
    let p = get_or ps k 0 in
    elim c.if-place-first.branch [
      | then-place-first+then-place-first-2+in_ok-push w ↦
          let past = w.if-place-first.true in
          let below = w.if-place-first-2.true in
          let at : p ≡ first + (p - first) = omega arith in
          rw (w.found-is, w.in_ok-push.ensures.items) (sifted_more first C ps k c.loop-place.found.items (p - first) c.requires c.loop-place-test.true c.loop-place.invariant at below)
      | else-place-first w ↦
          rw w.found-is (sifted_same first C ps k c.loop-place.found.items c.loop-place.invariant (λ v at lt. elim w.else-place-first.branch [
            | else-place-first-via-then-place-first+else-place-first-2 w' ↦ let past = w'.if-place-first.true in let below = w'.if-place-first-2.false in absurd (omega arith)
            | else-place-first-via-else-place-first w' ↦ let past = w'.if-place-first.false in absurd (omega arith)
          ]))
    ]

pub returns-clause-exact : goal.returns-clause-exact
returns-clause-exact c =
    let all : c.loop-place.place-index ≡ length c.args.chosen.now = omega arith in
    sifted_all c.args.first (λ v. v < c.args.count) c.args.chosen.now c.loop-place.place-index c.loop-place.found.items all c.loop-place.invariant
