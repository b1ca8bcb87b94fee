use Rattle.std.proofs.Common.{subst, Vec, Global, List, ℕ}
use Rattle.cert_graph.specs.Links.{Adds}
use Rattle.cert_judge.specs.Copies.{IsSided, IsLinkBy, IsAnchorBy}
use Rattle.cert_judge.proofs.Listed.{lists_of}
use Rattle.cert_judge.proofs.Siding.{sided_both, adds_both}
use Rattle.cert_judge.proofs.sides.link_sides.Goals as goal

pub returns : goal.returns
returns c =
    let rows = lists_of c.args.rows.now in
    let copies = lists_of c.args.copies.now in
    let holders = lists_of c.args.holders.now in
    let few = c.in_ok-sides.sides.few.items in
    let many = c.in_ok-sides.sides.many.items in
    let n = c.args.items in
    let m = c.args.anchors in
    let all = c.args.all.now in
    let old = c.args.groups.now.items in
    let mid = c.link_keys.new.groups.items in
    let new = c.link_copies.new.groups.items in
    let one = subst (λ (z : List (Vec ℕ Global)). Adds n old mid (IsLinkBy (IsSided (lists_of z) copies holders) all n) (IsAnchorBy (IsSided (lists_of z) copies holders) n m)) c.deref.ensures.value c.in_ok-link_keys.ensures in
    let two = subst (λ (z : List (Vec ℕ Global)). Adds n mid new (IsLinkBy (IsSided (lists_of z) copies holders) all n) (IsAnchorBy (IsSided (lists_of z) copies holders) n m)) c.deref-2.ensures.value c.in_ok-link_copies.ensures in
    adds_both all n m old mid new (IsSided (lists_of few) copies holders) (IsSided (lists_of many) copies holders) (IsSided rows copies holders) one two (sided_both rows (lists_of few) (lists_of many) copies holders c.in_ok-sides.ensures.whole)
