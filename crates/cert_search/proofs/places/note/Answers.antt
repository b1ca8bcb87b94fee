use Rattle.std.proofs.Common.{ℕ, ◌+◌, ◌<◌, ◌++◌, ◌∷◌, [], ◌∙◌, sym, subst, ap, take, get_or, List, length, arith}
use Rattle.std.specs.Prelude.{All}
use Rattle.std.proofs.lemmas.List.{take_all}
use Rattle.smallvec.specs.SmallVec.{SmallVec}
use Rattle.cert_search.proofs.Placing.{NotedSoFar, lists_of, noted_more, unnoted_more}
use Rattle.cert_search.proofs.places.note.Goals as goal
use Rattle.cert_search.proofs.places.note.Goals.{then-is_fit+in_ok-push, else-is_fit}

pub loop-w-preserved : goal.loop-w-preserved
loop-w-preserved c =
    let members = c.deref-w-items.result.now in
    let i = c.loop-w.w-index in
    let first = lists_of c.args.places.now in
    let issued = subst (λ (ws : List ℕ). All (λ w. w < length c.args.places.now) ws) (sym c.deref-w-items.ensures.value) c.requires in
    let here = issued i 0 c.loop-w-test.true in
    let inside : get_or members i 0 < length c.loop-w.places = omega (arith, here, c.loop-w.auto.places) in
    elim c.if-is_fit.branch [
      | then-is_fit+in_ok-push w ↦
          subst (λ (ls : List (SmallVec ℕ)). NotedSoFar c.args.nodes.now (take (i + 1) members) c.args.place first (lists_of ls)) (sym w.places-is)
          (noted_more c.args.nodes.now members i c.args.place first c.loop-w.places w.index-places-w.result w.push.new.self c.loop-w-test.true inside w.index-places-w.is (w.in_ok-push.ensures.ok ∙ ap (λ (v : SmallVec ℕ). v.items ++ c.args.place ∷ []) (sym w.index-places-w.is)) (c.is_fit.ensures.0 w.if-is_fit.true) c.loop-w.invariant)
      | else-is_fit w ↦
          subst (λ (ls : List (SmallVec ℕ)). NotedSoFar c.args.nodes.now (take (i + 1) members) c.args.place first (lists_of ls)) (sym w.places-is)
          (unnoted_more c.args.nodes.now members i c.args.place first (lists_of c.loop-w.places) c.loop-w-test.true (λ h. cc (w.if-is_fit.false, c.is_fit.ensures.1 h)) c.loop-w.invariant)
    ]

pub returns : goal.returns
returns c =
    subst (λ (ws : List ℕ). NotedSoFar c.args.nodes.now ws c.args.place (lists_of c.args.places.now) (lists_of c.loop-w.places))
    (take_all c.loop-w.w-index c.deref-w-items.result.now c.loop-w-test.false ∙ c.deref-w-items.ensures.value) c.loop-w.invariant
