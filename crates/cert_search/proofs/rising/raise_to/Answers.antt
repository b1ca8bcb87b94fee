use Rattle.std.proofs.Common.{◌≡◌, ℕ, ◌+◌, ◌<◌, ◌++◌, ◌∷◌, [], ◌∙◌, sym, subst, ap, take, get_or, List, length, Vec, Global, arith, inl}
use Rattle.std.specs.Prelude.{Contains}
use Rattle.std.proofs.lemmas.List.{take_all}
use Rattle.cert_graph.specs.declared.reach.Reach.{Reach}
use Rattle.cert_graph.specs.declared.reach.Reach.TheVariants.{No}
use Rattle.cert_graph.specs.Reach.{Takes, IsAtMost}
use Rattle.cert_search.specs.Rising.{AreRaised, HaveRisen}
use Rattle.cert_search.proofs.Handing.{raised_more, raised_still, risen_more}
use Rattle.cert_search.proofs.rising.raise_to.Goals as goal
use Rattle.cert_search.proofs.rising.raise_to.Goals.{then-not-is_at_most+in_ok-push, else-not-is_at_most}

pub loop-position-preserved : goal.loop-position-preserved
loop-position-preserved c =
    let first = c.args.row.now in
    let row = c.loop-position.row in
    let positions = c.args.positions.now in
    let i = c.loop-position.position-index in
    let reach = c.args.reach in
    let before = c.args.risen.now.items in
    let now = c.loop-position.risen.items in
    let here = c.requires i 0 c.loop-position-test.true in
    let inside : get_or positions i 0 < length row = omega (arith, here, c.loop-position.auto.row) in
    elim c.if-not-is_at_most.branch [
      | then-not-is_at_most+in_ok-push w ↦
          let above : IsAtMost reach (get_or row (get_or positions i 0) No) → ⊥ = λ le. cc (w.if-not-is_at_most.true, c.is_at_most.ensures.1 le) in
          let pushed : c.if-not-is_at_most.risen.items ≡ now ++ get_or positions i 0 ∷ [] = ap (λ (xs : Vec ℕ Global). xs.items) w.risen-is ∙ w.in_ok-push.ensures.items in record {
            raised = subst (λ (r : List Reach). AreRaised first r (λ v n. Contains (take (i + 1) positions) v × Takes reach n)) (sym w.row-is)
                (raised_more first row positions i reach c.loop-position-test.true inside above c.loop-position.invariant.raised);
            risen = subst (λ (xs : List ℕ). HaveRisen first c.if-not-is_at_most.row before xs) (sym pushed)
                (subst (λ (r : List Reach). HaveRisen first r before (now ++ get_or positions i 0 ∷ [])) (sym w.row-is)
                (risen_more first row before now (get_or positions i 0) reach inside above (λ v n t. (c.loop-position.invariant.raised v n).1 (inl t)) c.loop-position.invariant.risen));
          }
      | else-not-is_at_most w ↦ record {
        raised = subst (λ (r : List Reach). AreRaised first r (λ v n. Contains (take (i + 1) positions) v × Takes reach n)) (sym w.row-is)
            (raised_still first row positions i reach c.loop-position-test.true (c.is_at_most.ensures.0 w.if-not-is_at_most.false) c.loop-position.invariant.raised);
        risen = subst (λ (xs : List ℕ). HaveRisen first c.if-not-is_at_most.row before xs) (sym (ap (λ (xs : Vec ℕ Global). xs.items) w.risen-is))
            (subst (λ (r : List Reach). HaveRisen first r before now) (sym w.row-is) c.loop-position.invariant.risen);
      }
    ]

pub returns-clause-raised : goal.returns-clause-raised
returns-clause-raised c =
    subst (λ (xs : List ℕ). AreRaised c.args.row.now c.loop-position.row (λ v n. Contains xs v × Takes c.args.reach n)) (take_all c.loop-position.position-index c.args.positions.now c.loop-position-test.false)
    c.loop-position.invariant.raised
