use Rattle.std.proofs.Common.{◌≡◌, ℕ, ◌+◌, ◌<◌, ◌++◌, ◌∷◌, [], ◌∙◌, sym, subst, ap, take, get_or, List, length, Vec, Global, arith}
use Rattle.std.specs.Prelude.{◌↔◌}
use Rattle.std.proofs.lemmas.List.{take_all}
use Rattle.cert_graph.specs.declared.reach.Reach.{Reach}
use Rattle.cert_graph.specs.declared.reach.Reach.TheVariants.{No}
use Rattle.cert_graph.specs.Reach.{Takes, IsAtMost}
use Rattle.cert_graph.specs.Steps.{one_of}
use Rattle.cert_graph.specs.Nodes.{graph_of}
use Rattle.cert_graph.specs.declared.changes.Change.{Change}
use Rattle.cert_search.specs.Rising.{LetsThrough}
use Rattle.cert_search.proofs.Handing.{SoRaised, row_more, row_still, row_all}
use Rattle.cert_search.proofs.rising.raise_row.Goals as goal
use Rattle.cert_search.proofs.rising.raise_row.Goals.{then-not-is_at_most+in_ok-push, else-not-is_at_most}

pub loop-v-preserved : goal.loop-v-preserved
loop-v-preserved c =
    let g = graph_of c.args.nodes.now in
    let offers = c.args.offers.now in
    let first = c.args.row.now in
    let row = c.loop-v.row in
    let risen = c.args.risen.now in
    let i = c.loop-v.v-index in
    let x = get_or risen i 0 in
    let changes = c.loop-v.changes.items in
    let reach = c.raised_at-reach.result in
    let here = c.requires.within i 0 c.loop-v-test.true in
    let inside : get_or risen i 0 < length row = omega (arith, here, c.loop-v.auto.row) in
    let is : (n : ℕ) → Takes reach n ↔ LetsThrough g offers x n =
    subst (λ (r : Reach). (n : ℕ) → Takes reach n ↔ (g.Fit x × Takes (g.limit x) n × Takes r (n + one_of g x))) c.reach_at.ensures c.raised_at-reach.ensures in
    elim c.if-not-is_at_most.branch [
      | then-not-is_at_most+in_ok-push w ↦
          let above : IsAtMost reach (get_or row x No) → ⊥ = λ le. cc (w.if-not-is_at_most.true, c.is_at_most.ensures.1 le) in
          let new : Change = record { position = x; reach = reach } in
          let pushed : c.if-not-is_at_most.changes.items ≡ changes ++ new ∷ [] = ap (λ (xs : Vec Change Global). xs.items) w.changes-is ∙ w.in_ok-push.ensures.items in
          subst (λ (xs : List Change). SoRaised g offers first c.if-not-is_at_most.row (take (i + 1) risen) xs) (sym pushed)
          (subst (λ (r : List Reach). SoRaised g offers first r (take (i + 1) risen) (changes ++ new ∷ [])) (sym w.row-is)
          (row_more g offers first row risen i reach changes c.loop-v-test.true inside above is c.loop-v.invariant))
      | else-not-is_at_most w ↦
          subst (λ (xs : Vec Change Global). SoRaised g offers first c.if-not-is_at_most.row (take (i + 1) risen) xs.items) (sym w.changes-is)
          (subst (λ (r : List Reach). SoRaised g offers first r (take (i + 1) risen) changes) (sym w.row-is)
          (row_still g offers first row risen i reach changes c.loop-v-test.true (c.is_at_most.ensures.0 w.if-not-is_at_most.false) is c.loop-v.invariant))
    ]

pub returns-clause-raised : goal.returns-clause-raised
returns-clause-raised c =
    row_all (graph_of c.args.nodes.now) c.args.offers.now c.args.row.now c.loop-v.row c.args.risen.now c.loop-v.changes.items
    (subst (λ (xs : List ℕ). SoRaised (graph_of c.args.nodes.now) c.args.offers.now c.args.row.now c.loop-v.row xs c.loop-v.changes.items) (take_all c.loop-v.v-index c.args.risen.now c.loop-v-test.false)
    c.loop-v.invariant)
    c.requires.fresh
