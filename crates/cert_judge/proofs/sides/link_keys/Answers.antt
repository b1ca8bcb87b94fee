use Rattle.std.proofs.Common.{◌≡◌, ◌∙◌, sym, subst, ℕ, ◌+◌, ◌<◌, ◌≤◌, [], length, get_or, Vec, Global, arith}
use Rattle.std.proofs.lemmas.List.{length-map}
use Rattle.std.specs.Prelude.{◌↔◌, All, Contains}
use Rattle.std.specs.List.Sorted.{IsStrictlyIncreasing}
use Rattle.cert_graph.specs.Links.{Adds, IsPlaceLink, IsPlaceAnchor}
use Rattle.cert_judge.specs.Copies.{IsIn, IsSided}
use Rattle.cert_judge.proofs.Listed.{lists_of, list_at, in_list}
use Rattle.cert_judge.proofs.Siding.{ByKeys, no_keys, keys_more, keys_all, adds_step, adds_same, adds_nothing, all_from}
use Rattle.cert_judge.proofs.sides.link_keys.Goals as goal

pub loop-number-init : goal.loop-number-init
loop-number-init c =
    adds_nothing c.args.all.now c.args.items c.args.anchors c.args.groups.now.items (ByKeys (lists_of c.args.rows.now) (lists_of c.args.copies.now) (lists_of c.args.holders.now) 0) (no_keys (lists_of c.args.rows.now) (lists_of c.args.copies.now) (lists_of c.args.holders.now))

pub link_some-requires-clause-holders_ascend : goal.link_some-requires-clause-holders_ascend
link_some-requires-clause-holders_ascend c =
    let holders = c.args.holders.now in
    let k = c.loop-number.number in
    let h = c.index-holders-number.result in
    let count = c.requires.count in
    let lt : k < length holders = omega arith in
    let long = length-map holders (λ (l : Vec ℕ Global). l.items) in
    subst IsStrictlyIncreasing (list_at holders k h [] lt c.index-holders-number.is ∙ sym c.deref-in-loop-number-2.ensures.value) (c.requires.linkable.holders_ascend k (subst (λ n. k < n) (sym long) lt))

pub link_some-requires-clause-linked_within : goal.link_some-requires-clause-linked_within
link_some-requires-clause-linked_within c =
    subst (All (λ v. v < c.args.items)) (sym c.deref-in-loop-number.ensures.value)
    (all_from (λ v. v < c.args.items) c.in_ok-linked.linked.items (λ v h. let x = (c.in_ok-linked.ensures.exact v).0 h in c.requires.linkable.copies_within x.0 v x.2))

pub link_some-requires-clause-holders_behind : goal.link_some-requires-clause-holders_behind
link_some-requires-clause-holders_behind c =
    let holders = c.args.holders.now in
    let k = c.loop-number.number in
    let h = c.index-holders-number.result in
    let count = c.requires.count in
    let lt : k < length holders = omega arith in
    subst (All (λ v. c.args.items ≤ v)) (sym c.deref-in-loop-number-2.ensures.value)
    (all_from (λ v. c.args.items ≤ v) h.items (λ p x. c.requires.linkable.holders_behind k p ((in_list holders k h lt c.index-holders-number.is p).1 x)))

pub loop-number-preserved : goal.loop-number-preserved
loop-number-preserved c =
    let rows = lists_of c.args.rows.now in
    let copies = lists_of c.args.copies.now in
    let holders = lists_of c.args.holders.now in
    let k = c.loop-number.number in
    let n = c.args.items in
    let m = c.args.anchors in
    let all = c.args.all.now in
    let count = c.requires.count in
    let lt : k < length c.args.rows.now = omega arith in
    let lt2 : k < length c.args.holders.now = omega arith in
    let lr = length-map c.args.rows.now (λ (l : Vec ℕ Global). l.items) in
    let lh = length-map c.args.holders.now (λ (l : Vec ℕ Global). l.items) in
    let row = c.index-rows-number.result in
    let held = c.index-holders-number.result in
    let linked = c.in_ok-linked.linked.items in
    let at : row.items ≡ get_or rows k [] = sym (list_at c.args.rows.now k row [] lt c.index-rows-number.is) in
    let at2 : held.items ≡ get_or holders k [] = sym (list_at c.args.holders.now k held [] lt2 c.index-holders-number.is) in
    let exact = subst (λ z. (v : ℕ) → Contains linked v ↔ ((d : ℕ) × Contains z d × IsIn copies d v)) c.deref.ensures.value c.in_ok-linked.ensures.exact in
    let mid = c.loop-number.groups.items in
    let new = c.link_some.new.groups.items in
    let more = subst (λ z. Adds n mid new (IsPlaceLink all n linked z) (IsPlaceAnchor n m linked z)) c.deref-in-loop-number-2.ensures.value
    (subst (λ z. Adds n mid new (IsPlaceLink all n z c.deref-in-loop-number-2.result.now) (IsPlaceAnchor n m z c.deref-in-loop-number-2.result.now)) c.deref-in-loop-number.ensures.value c.in_ok-link_some.ensures) in
    adds_step all n m c.args.groups.now.items mid new (ByKeys rows copies holders k) (ByKeys rows copies holders (k + 1)) linked held.items c.loop-number.invariant more
    (keys_more rows copies holders k row.items linked held.items (subst (λ i. k < i) (sym lr) lt) (subst (λ i. k < i) (sym lh) lt2) at at2 exact)

pub returns : goal.returns
returns c =
    let rows = lists_of c.args.rows.now in
    let copies = lists_of c.args.copies.now in
    let holders = lists_of c.args.holders.now in
    let k = c.loop-number.number in
    let lr = length-map c.args.rows.now (λ (l : Vec ℕ Global). l.items) in
    let end : k ≡ length c.args.rows.now = omega arith in
    adds_same c.args.all.now c.args.items c.args.anchors c.args.groups.now.items c.loop-number.groups.items (ByKeys rows copies holders k) (IsSided rows copies holders) c.loop-number.invariant (keys_all rows copies holders k (end ∙ sym lr))
