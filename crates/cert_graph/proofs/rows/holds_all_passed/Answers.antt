-- The best of the members stands for each of them.
use Rattle.std.proofs.Common.{◌≡◌, ℕ, true, List, subst}
use Rattle.std.specs.Prelude.{◌↔◌, All}
use Rattle.cert_graph.specs.Reach.{Takes}
use Rattle.cert_graph.specs.Groups.{IsOffered, HoldsPassed}
use Rattle.cert_graph.proofs.GroupFacts.{passed_iff}
use Rattle.cert_graph.proofs.rows.holds_all_passed.Goals as goal

pub returns : goal.returns
returns c =
    let nodes = c.args.nodes.now in
    let row = c.args.row.now in
    let best = c.best_of-best.result in
    passed_iff nodes row c.args.next.now c.args.group.now best
    (subst (λ (xs : List ℕ). (d : ℕ) → Takes best d ↔ IsOffered nodes row xs d) c.deref.ensures.value c.best_of-best.ensures)
    (subst (λ (xs : List ℕ). (c.hold_passed.result ≡ true) ↔ All (HoldsPassed nodes c.args.next.now best) xs) c.deref-2.ensures.value c.hold_passed.ensures)
