use Rattle.std.proofs.Common.{◌≡◌, ◌∙◌, sym, subst, ℕ, ◌+◌, ◌<◌, ◌≤◌, [], length, get_or, Vec, Global, arith}
use Rattle.std.proofs.lemmas.List.{length-map}
use Rattle.std.specs.Prelude.{◌↔◌, All, Contains}
use Rattle.std.specs.List.Sorted.{IsStrictlyIncreasing}
use Rattle.cert_graph.specs.Links.{Adds, IsPlaceLink, IsPlaceAnchor}
use Rattle.cert_judge.specs.Copies.{IsIn, IsSided}
use Rattle.cert_graph.specs.Lists.{AreFilled}
use Rattle.cert_judge.proofs.Listed.{lists_of, list_at, in_list}
use Rattle.cert_judge.proofs.Siding.{ByCopies, no_copies, copies_more, copies_all, adds_step, adds_same, adds_nothing, all_from}
use Rattle.cert_judge.proofs.sides.link_copies.Goals as goal

pub loop-number-init : goal.loop-number-init
loop-number-init c =
    adds_nothing c.args.all.now c.args.items c.args.anchors c.args.groups.now.items (ByCopies (lists_of c.args.rows.now) (lists_of c.args.copies.now) (lists_of c.args.holders.now) 0) (no_copies (lists_of c.args.rows.now) (lists_of c.args.copies.now) (lists_of c.args.holders.now))

pub link_some-requires-clause-linked_ascend : goal.link_some-requires-clause-linked_ascend
link_some-requires-clause-linked_ascend c =
    let copies = c.args.copies.now in
    let d = c.loop-number.number in
    let l = c.index-copies-number.result in
    let lt : d < length copies = omega arith in
    let long = length-map copies (λ (l : Vec ℕ Global). l.items) in
    subst IsStrictlyIncreasing (list_at copies d l [] lt c.index-copies-number.is ∙ sym c.deref-in-loop-number.ensures.value) (c.requires.linkable.copies_ascend d (subst (λ n. d < n) (sym long) lt))

pub link_some-requires-clause-linked_within : goal.link_some-requires-clause-linked_within
link_some-requires-clause-linked_within c =
    let copies = c.args.copies.now in
    let d = c.loop-number.number in
    let l = c.index-copies-number.result in
    let lt : d < length copies = omega arith in
    subst (All (λ v. v < c.args.items)) (sym c.deref-in-loop-number.ensures.value)
    (all_from (λ v. v < c.args.items) l.items (λ v x. c.requires.linkable.copies_within d v ((in_list copies d l lt c.index-copies-number.is v).1 x)))

pub link_some-requires-clause-holders_behind : goal.link_some-requires-clause-holders_behind
link_some-requires-clause-holders_behind c =
    subst (All (λ v. c.args.items ≤ v)) (sym c.deref-in-loop-number-2.ensures.value)
    (all_from (λ v. c.args.items ≤ v) c.in_ok-held.held.items (λ p h. let x = (c.in_ok-held.ensures.exact p).0 h in c.requires.linkable.holders_behind x.0 p x.2))

pub loop-number-preserved : goal.loop-number-preserved
loop-number-preserved c =
    let rows = lists_of c.args.rows.now in
    let copies = lists_of c.args.copies.now in
    let holders = lists_of c.args.holders.now in
    let keys = c.in_ok-keys.keys.items in
    let d = c.loop-number.number in
    let n = c.args.items in
    let m = c.args.anchors in
    let all = c.args.all.now in
    let lt : d < length c.args.copies.now = omega arith in
    let lr = length-map c.args.rows.now (λ (l : Vec ℕ Global). l.items) in
    let lc = length-map c.args.copies.now (λ (l : Vec ℕ Global). l.items) in
    let lk = length-map keys (λ (l : Vec ℕ Global). l.items) in
    let filled : AreFilled (IsIn rows) (length copies) (length rows) (lists_of keys) = subst (λ b. AreFilled (IsIn rows) (length copies) b (lists_of keys)) (sym lr) (subst (λ b. AreFilled (IsIn rows) b (length c.args.rows.now) (lists_of keys)) (sym lc) c.in_ok-keys.ensures) in
    let count = filled.count in
    let ltk : d < length keys = omega arith in
    let row = c.index.result.now in
    let own = c.index-copies-number.result in
    let held = c.in_ok-held.held.items in
    let at : row.items ≡ get_or (lists_of keys) d [] = sym (list_at keys d row [] ltk c.index.ensures) in
    let at2 : own.items ≡ get_or copies d [] = sym (list_at c.args.copies.now d own [] lt c.index-copies-number.is) in
    let exact = subst (λ z. (p : ℕ) → Contains held p ↔ ((k : ℕ) × Contains z k × IsIn holders k p)) c.deref.ensures.value c.in_ok-held.ensures.exact in
    let mid = c.loop-number.groups.items in
    let new = c.link_some.new.groups.items in
    let more = subst (λ z. Adds n mid new (IsPlaceLink all n own.items z) (IsPlaceAnchor n m own.items z)) c.deref-in-loop-number-2.ensures.value
    (subst (λ z. Adds n mid new (IsPlaceLink all n z c.deref-in-loop-number-2.result.now) (IsPlaceAnchor n m z c.deref-in-loop-number-2.result.now)) c.deref-in-loop-number.ensures.value c.in_ok-link_some.ensures) in
    adds_step all n m c.args.groups.now.items mid new (ByCopies rows copies holders d) (ByCopies rows copies holders (d + 1)) own.items held c.loop-number.invariant more
    (copies_more rows copies holders (lists_of keys) d row.items own.items held filled (subst (λ i. d < i) (sym lc) lt) at at2 exact)

pub returns : goal.returns
returns c =
    let rows = lists_of c.args.rows.now in
    let copies = lists_of c.args.copies.now in
    let holders = lists_of c.args.holders.now in
    let d = c.loop-number.number in
    let lc = length-map c.args.copies.now (λ (l : Vec ℕ Global). l.items) in
    let end : d ≡ length c.args.copies.now = omega arith in
    adds_same c.args.all.now c.args.items c.args.anchors c.args.groups.now.items c.loop-number.groups.items (ByCopies rows copies holders d) (IsSided rows copies holders) c.loop-number.invariant (copies_all rows copies holders d (end ∙ sym lc))
