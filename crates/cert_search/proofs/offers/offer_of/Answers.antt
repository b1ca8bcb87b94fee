use Rattle.std.proofs.Common.{◌≡◌, ℕ, ◌+◌, ◌∙◌, sym, subst, take, List, inl, inr}
use Rattle.std.specs.Prelude.{◌↔◌, ◌⊎◌}
use Rattle.std.proofs.lemmas.List.{take_all}
use Rattle.cert_graph.specs.declared.reach.Reach.{Reach}
use Rattle.cert_graph.specs.Reach.{Takes}
use Rattle.cert_graph.specs.Groups.{IsOffered}
use Rattle.cert_graph.proofs.GroupFacts.{best_more, best_same}
use Rattle.cert_search.proofs.offers.offer_of.Goals as goal
use Rattle.cert_search.proofs.offers.offer_of.Goals.{then-is_fit, else-is_fit}

pub returns-then-has_anchor : goal.returns-then-has_anchor
returns-then-has_anchor c n = (λ t. inl (c.has_anchor.ensures.0 c.if-has_anchor.true), λ x. tt)

pub loop-w-preserved : goal.loop-w-preserved
loop-w-preserved c = elim c.if-is_fit.branch [
  | then-is_fit w ↦
      subst (λ (r : Reach). (n : ℕ) → Takes r n ↔ IsOffered c.args.nodes.now c.args.row.now (take (c.loop-w.w-index + 1) c.deref-w-items.result.now) n) (sym w.best-is)
      (best_more c.args.nodes.now c.args.row.now c.deref-w-items.result.now c.loop-w.w-index c.loop-w.best w.greater-best.result
      c.loop-w-test.true c.loop-w.invariant (c.is_fit.ensures.0 w.if-is_fit.true)
      (subst (λ (r : Reach). (n : ℕ) → Takes w.greater-best.result n ↔ (Takes c.loop-w.best n ⊎ Takes r n)) w.reach_at.ensures w.greater-best.ensures))
  | else-is_fit w ↦
      subst (λ (r : Reach). (n : ℕ) → Takes r n ↔ IsOffered c.args.nodes.now c.args.row.now (take (c.loop-w.w-index + 1) c.deref-w-items.result.now) n) (sym w.best-is)
      (best_same c.args.nodes.now c.args.row.now c.deref-w-items.result.now c.loop-w.w-index c.loop-w.best
      c.loop-w-test.true c.loop-w.invariant (λ h. cc (w.if-is_fit.false, c.is_fit.ensures.1 h)))
]

pub returns : goal.returns
returns c n =
    let all : take c.loop-w.w-index c.deref-w-items.result.now ≡ c.args.group.now.members.items = take_all c.loop-w.w-index c.deref-w-items.result.now c.loop-w-test.false ∙ c.deref-w-items.ensures.value in
    let k = subst (λ (ms : List ℕ). Takes c.loop-w.best n ↔ IsOffered c.args.nodes.now c.args.row.now ms n) all (c.loop-w.invariant n) in (
      λ t. inr (k.0 t),
      λ x. elim x [ inl some ↦ cc (c.if-has_anchor.false, c.has_anchor.ensures.1 some) | inr m ↦ k.1 m ],
    )
