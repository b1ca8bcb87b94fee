use Rattle.std.proofs.Common.{◌≡◌, ◌∙◌, ◌+◌, ℕ, length, get_or, arith, sym, subst, ap}
use Rattle.std.specs.Prelude.{is_some}
use Rattle.cert_graph.specs.Places.{text_at}
use Rattle.cert_graph.specs.declared.places.Part.TheVariants.{Id}
use Rattle.cert_graph.proofs.Sifted.{sifted_more, sifted_same, sifted_whole, some_shown, same_flag, other_flag, nothing_added}
use Rattle.cert_graph.proofs.sifting.identified.Goals as goal
use Rattle.cert_graph.proofs.sifting.identified.Goals.{then-is_some-shown+in_ok-push, else-is_some-shown}

pub loop-place-preserved : goal.loop-place-preserved
loop-place-preserved c =
    let ps = c.args.chosen.now in
    let C = λ (v : ℕ). is_some (text_at Id c.args.all.now v) ≡ c.args.shown in
    let k = c.loop-place.place-index in
    let p = get_or ps k 0 in
    let here : is_some (text_at Id c.args.all.now p) ≡ c.is_some.result = ap is_some (sym c.text_at.ensures) ∙ some_shown _ c.text_at.result ∙ sym c.is_some.ensures in
    elim c.if-is_some-shown.branch [
      | then-is_some-shown+in_ok-push w ↦
          let at : p ≡ 0 + p = omega arith in
          rw (w.found-is, w.in_ok-push.ensures.items) (sifted_more 0 C ps k c.loop-place.found.items p c.requires c.loop-place-test.true c.loop-place.invariant at (here ∙ same_flag _ _ w.if-is_some-shown.true))
      | else-is_some-shown w ↦
          rw w.found-is (sifted_same 0 C ps k c.loop-place.found.items c.loop-place.invariant (λ v at is. other_flag _ _ w.if-is_some-shown.false (sym here ∙ subst C (sym (nothing_added p v at)) is)))
    ]

pub returns-clause-exact : goal.returns-clause-exact
returns-clause-exact c =
    let all : c.loop-place.place-index ≡ length c.args.chosen.now = omega arith in
    sifted_whole (λ v. is_some (text_at Id c.args.all.now v) ≡ c.args.shown) c.args.chosen.now c.loop-place.place-index c.loop-place.found.items all c.loop-place.invariant
