-- One link more of an entry, and one entry more.
use Rattle.std.proofs.Common.{◌≡◌, ℕ, ◌+◌, ◌<◌, List, [], ap, length, take, map, get_or, Vec, Global, ◌∙◌, arith, subst}
use Rattle.cert_graph.specs.declared.nodes.Group.{Group}
use Rattle.cert_graph.specs.Lists.{AreFilled, NamedSoFar}
use Rattle.cert_graph.specs.Issuing.{MemberIn}
use Rattle.cert_graph.proofs.Filled.{filled_none, filled_put, filled_weaker}
use Rattle.cert_graph.proofs.EntryFacts.{named_none, named_more, named_all}
use Rattle.cert_graph.proofs.issuing.memberships_of.Goals as goal

pub loop-place-init : goal.loop-place-init
loop-place-init c =
    let size : c.len.result ≡ length c.args.nodes.now.items.items = omega arith in
    let count : length c.in_ok-lists.lists.items ≡ length c.args.nodes.now.items.items = c.in_ok-lists.ensures.count ∙ size in
    filled_none (MemberIn c.args.nodes.now.groups.items) (length c.args.nodes.now.items.items) c.in_ok-lists.lists.items count c.in_ok-lists.ensures.empty

pub loop-item-init : goal.loop-item-init
loop-item-init c =
    let entries = c.args.nodes.now.groups.items in
    let v = c.loop-place.place in
    filled_weaker (MemberIn entries) (NamedSoFar (MemberIn entries) v []) (length c.args.nodes.now.items.items) v (v + 1) (map (λ (l : Vec ℕ Global). l.items) c.loop-place.lists.items) (omega arith) c.loop-place.invariant
    (λ u k small here. named_none (MemberIn entries) v u k small)

pub loop-item-preserved : goal.loop-item-preserved
loop-item-preserved c =
    let entries = c.args.nodes.now.groups.items in
    let v = c.loop-place.place in
    let named = c.deref-item-items.result.now in
    let i = c.loop-item.item-index in
    filled_put (NamedSoFar (MemberIn entries) v (take i named)) (NamedSoFar (MemberIn entries) v (take (i + 1) named)) (length c.args.nodes.now.items.items) (v + 1) v (get_or named i 0) (map (λ (l : Vec ℕ Global). l.items) c.loop-item.lists.items)
    (map (λ (l : Vec ℕ Global). l.items) c.put.new.lists.items) (omega arith) c.loop-item.invariant c.in_ok-put.ensures
    (λ u k small here. named_more (MemberIn entries) v named i c.loop-item-test.true u k small)

pub loop-place-preserved : goal.loop-place-preserved
loop-place-preserved c =
    let entries = c.args.nodes.now.groups.items in
    let v = c.loop-place.place in
    let named = c.deref-item-items.result.now in
    let i = c.loop-item.item-index in
    let e = c.deref-group-items.ensures.value in
    let within : v < length entries = subst (λ (gs : List Group). v < length gs) e c.loop-place-test.true in
    let is : c.group-item.result ≡ get_or entries v c.group-item.result = subst (λ (gs : List Group). c.group-item.result ≡ get_or gs v c.group-item.result) e c.group-item.is in
    filled_weaker (NamedSoFar (MemberIn entries) v (take i named)) (MemberIn entries) (length c.args.nodes.now.items.items) (v + 1) (v + 1) (map (λ (l : Vec ℕ Global). l.items) c.loop-item.lists.items) (omega arith) c.loop-item.invariant
    (λ u k small here. named_all (λ (e : Group). e.members.items) entries v c.group-item.result named i within is c.deref-item-items.ensures.value c.loop-item-test.false u k small)

pub returns : goal.returns
returns c =
    let long = ap length c.deref-group-items.ensures.value in
    let all : c.loop-place.place ≡ length c.args.nodes.now.groups.items = omega arith in
    subst (λ (n : ℕ). AreFilled (MemberIn c.args.nodes.now.groups.items) (length c.args.nodes.now.items.items) n (map (λ (l : Vec ℕ Global). l.items) c.loop-place.lists.items)) all c.loop-place.invariant
