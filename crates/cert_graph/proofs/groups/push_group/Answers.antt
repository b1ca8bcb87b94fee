use Rattle.std.proofs.Common.{rules, ◌≡◌, arith, length}
use Rattle.cert_graph.proofs.Adding.{adds_push, adds_none}
use Rattle.cert_graph.proofs.groups.push_group.Goals as goal

pub returns-then-is_empty : goal.returns-then-is_empty
returns-then-is_empty c =
    let zero : length c.args.issued.items ≡ 0 = search rules in
    adds_none c.args.items c.args.groups.now.items _ _ (λ v w h. let lt = h.0.1 in absurd (omega arith)) (λ v a h. let lt = h.0.1 in absurd (omega arith))

pub returns : goal.returns
returns c =
    rw c.in_ok-push.ensures.items (adds_push c.args.items c.args.groups.now.items _ c.requires.members_within c.requires.issued_within)
