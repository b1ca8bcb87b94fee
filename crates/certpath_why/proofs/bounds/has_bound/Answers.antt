use Rattle.std.proofs.Common.{◌≡◌, ◌∙◌, sym, subst, refl, arith, inl, inr}
use Rattle.std.proofs.lemmas.Bool.{cases_lt, false≢true}
use Rattle.cert_graph.specs.declared.reach.Reach.TheVariants.{UpTo}
use Rattle.certpath_why.specs.Bounds.{reach_by}
use Rattle.certpath_why.proofs.bounds.has_bound.Goals as goal

pub loop-place-preserved : goal.loop-place-preserved
loop-place-preserved c = λ v lt e. elim (cases_lt v c.loop-place.place) [
  | inl less ↦ c.loop-place.invariant v less e
  | inr past ↦
      let here : v ≡ c.loop-place.place = omega (arith, lt, past) in
      false≢true (sym c.if-takes_none_below.false ∙ c.takes_none_below.ensures.1 (c.reach_in.ensures ∙ subst (λ i. reach_by c.args.answer.now i ≡ UpTo 0) here e))
]

pub returns-then-takes_none_below : goal.returns-then-takes_none_below
returns-then-takes_none_below c = (λ t. (c.loop-place.place, c.loop-place-test.true, sym c.reach_in.ensures ∙ c.takes_none_below.ensures.0 c.if-takes_none_below.true), λ h. refl)

pub returns : goal.returns
returns c = (λ t. absurd (false≢true t), λ h. absurd (c.loop-place.invariant h.0 (let le = c.loop-place-test.false in let lt = h.1 in omega arith) h.2))
