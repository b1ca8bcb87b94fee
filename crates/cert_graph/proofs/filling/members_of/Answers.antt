-- One group more that an entry is in, and one entry more.
use Rattle.std.proofs.Common.{◌≡◌, ℕ, ◌+◌, [], length, take, map, get_or, Vec, Global, arith, subst}
use Rattle.cert_graph.specs.declared.entries.Entry.{Entry}
use Rattle.cert_graph.specs.Lists.{AreFilled, NamedSoFar}
use Rattle.cert_graph.specs.Entries.{BelongsTo}
use Rattle.cert_graph.proofs.Filled.{filled_none, filled_put, filled_weaker}
use Rattle.cert_graph.proofs.EntryFacts.{named_none, named_more, named_all}
use Rattle.cert_graph.proofs.filling.members_of.Goals as goal

pub loop-position-init : goal.loop-position-init
loop-position-init c = filled_none (BelongsTo c.args.entries.now) c.args.groups c.in_ok-lists.lists.items c.in_ok-lists.ensures.count c.in_ok-lists.ensures.empty

pub loop-own-init : goal.loop-own-init
loop-own-init c =
    let entries = c.args.entries.now in
    let v = c.loop-position.position in
    filled_weaker (BelongsTo entries) (NamedSoFar (BelongsTo entries) v []) c.args.groups v (v + 1) (map (λ (l : Vec ℕ Global). l.items) c.loop-position.lists.items) (omega arith) c.loop-position.invariant
    (λ u k small here. named_none (BelongsTo entries) v u k small)

pub loop-own-preserved : goal.loop-own-preserved
loop-own-preserved c =
    let entries = c.args.entries.now in
    let v = c.loop-position.position in
    let named = c.deref-own-items.result.now in
    let i = c.loop-own.own-index in
    filled_put (NamedSoFar (BelongsTo entries) v (take i named)) (NamedSoFar (BelongsTo entries) v (take (i + 1) named)) c.args.groups (v + 1) v (get_or named i 0) (map (λ (l : Vec ℕ Global). l.items) c.loop-own.lists.items)
    (map (λ (l : Vec ℕ Global). l.items) c.put.new.lists.items) (omega arith) c.loop-own.invariant c.in_ok-put.ensures
    (λ u k small here. named_more (BelongsTo entries) v named i c.loop-own-test.true u k small)

pub loop-position-preserved : goal.loop-position-preserved
loop-position-preserved c =
    let entries = c.args.entries.now in
    let v = c.loop-position.position in
    let named = c.deref-own-items.result.now in
    let i = c.loop-own.own-index in
    filled_weaker (NamedSoFar (BelongsTo entries) v (take i named)) (BelongsTo entries) c.args.groups (v + 1) (v + 1) (map (λ (l : Vec ℕ Global). l.items) c.loop-own.lists.items) (omega arith) c.loop-own.invariant
    (λ u k small here. named_all (λ (e : Entry). e.groups.items) entries v c.index-entries-position.result named i c.loop-position-test.true c.index-entries-position.is c.deref-own-items.ensures.value c.loop-own-test.false u k small)

pub returns : goal.returns
returns c =
    let all : c.loop-position.position ≡ length c.args.entries.now = omega arith in
    subst (λ (n : ℕ). AreFilled (BelongsTo c.args.entries.now) c.args.groups n (map (λ (l : Vec ℕ Global). l.items) c.loop-position.lists.items)) all c.loop-position.invariant
