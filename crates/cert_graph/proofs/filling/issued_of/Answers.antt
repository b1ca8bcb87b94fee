-- One link more of an entry, and one entry more.
use Rattle.std.proofs.Common.{◌≡◌, ℕ, ◌+◌, [], length, take, map, get_or, Vec, Global, arith, subst}
use Rattle.cert_graph.specs.declared.entries.Entry.{Entry}
use Rattle.cert_graph.specs.Lists.{AreFilled, NamedSoFar}
use Rattle.cert_graph.specs.Entries.{LinkedTo}
use Rattle.cert_graph.proofs.Filled.{filled_none, filled_put, filled_weaker}
use Rattle.cert_graph.proofs.EntryFacts.{named_none, named_more, named_all}
use Rattle.cert_graph.proofs.filling.issued_of.Goals as goal

pub loop-position-init : goal.loop-position-init
loop-position-init c = filled_none (LinkedTo c.args.entries.now) c.args.groups c.in_ok-lists.lists.items c.in_ok-lists.ensures.count c.in_ok-lists.ensures.empty

pub loop-group-init : goal.loop-group-init
loop-group-init c =
    let entries = c.args.entries.now in
    let v = c.loop-position.position in
    filled_weaker (LinkedTo entries) (NamedSoFar (LinkedTo entries) v []) c.args.groups v (v + 1) (map (λ (l : Vec ℕ Global). l.items) c.loop-position.lists.items) (omega arith) c.loop-position.invariant
    (λ u k small here. named_none (LinkedTo entries) v u k small)

pub loop-group-preserved : goal.loop-group-preserved
loop-group-preserved c =
    let entries = c.args.entries.now in
    let v = c.loop-position.position in
    let named = c.deref-group-items.result.now in
    let i = c.loop-group.group-index in
    filled_put (NamedSoFar (LinkedTo entries) v (take i named)) (NamedSoFar (LinkedTo entries) v (take (i + 1) named)) c.args.groups (v + 1) v (get_or named i 0) (map (λ (l : Vec ℕ Global). l.items) c.loop-group.lists.items)
    (map (λ (l : Vec ℕ Global). l.items) c.put.new.lists.items) (omega arith) c.loop-group.invariant c.in_ok-put.ensures
    (λ u k small here. named_more (LinkedTo entries) v named i c.loop-group-test.true u k small)

pub loop-position-preserved : goal.loop-position-preserved
loop-position-preserved c =
    let entries = c.args.entries.now in
    let v = c.loop-position.position in
    let named = c.deref-group-items.result.now in
    let i = c.loop-group.group-index in
    filled_weaker (NamedSoFar (LinkedTo entries) v (take i named)) (LinkedTo entries) c.args.groups (v + 1) (v + 1) (map (λ (l : Vec ℕ Global). l.items) c.loop-group.lists.items) (omega arith) c.loop-group.invariant
    (λ u k small here. named_all (λ (e : Entry). e.links.items) entries v c.index-entries-position.result named i c.loop-position-test.true c.index-entries-position.is c.deref-group-items.ensures.value c.loop-group-test.false u k small)

pub returns : goal.returns
returns c =
    let all : c.loop-position.position ≡ length c.args.entries.now = omega arith in
    subst (λ (n : ℕ). AreFilled (LinkedTo c.args.entries.now) c.args.groups n (map (λ (l : Vec ℕ Global). l.items) c.loop-position.lists.items)) all c.loop-position.invariant
