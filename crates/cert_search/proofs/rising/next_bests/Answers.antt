use Rattle.std.proofs.Common.{◌≡◌, ℕ, ◌<◌, sym, subst, List, length, Vec, Global, inl}
use Rattle.std.specs.Prelude.{All, Option, Result, Ok, Err, IfOk, IfSome}
use Rattle.smallvec.specs.SmallVec.{SmallVec}
use Rattle.cert_graph.specs.declared.nodes.Nodes.{Nodes}
use Rattle.cert_graph.specs.Reach.{Takes}
use Rattle.cert_graph.specs.Adequate.{at_row}
use Rattle.cert_search.specs.Rising.{ArePlaces, AreBests, AreRaised, MemberTakes}
use Rattle.cert_search.proofs.Placing.{lists_of}
use Rattle.cert_search.proofs.Handing.{places_within, bests_next}
use Rattle.cert_search.proofs.rising.next_bests.Goals as goal

places_known : (nodes : Nodes) (places : Option (Vec (SmallVec ℕ) Global)) (known : Vec (SmallVec ℕ) Global) → places ≡ Option.Some known → IfSome places (λ l. ArePlaces nodes (lists_of l.items)) → ArePlaces nodes (lists_of known.items)
places_known nodes places known is p = subst (λ (o : Option (Vec (SmallVec ℕ) Global)). IfSome o (λ l. ArePlaces nodes (lists_of l.items))) is p

where_ok : {T E : Type 0} (r : Result T E) (P Q : Type 0) → (P → Q) → IfOk r (λ _. P) → IfOk r (λ _. Q)
where_ok (Ok x) P Q f p = f p
where_ok (Err e) P Q f p = tt

pub raise_bests-requires : goal.raise_bests-requires
raise_bests-requires c =
    let nodes = c.args.nodes.now in
    let known = c.in-Some.known in
    let within = places_within nodes known.items (places_known nodes c.args.places.now known c.in-Some.is c.requires.places) in
    subst (λ (n : ℕ). All (λ (l : SmallVec ℕ). All (λ k. k < n) l.items) c.deref.result.now) (sym c.requires.whole)
    (subst (λ (ls : List (SmallVec ℕ)). All (λ (l : SmallVec ℕ). All (λ k. k < length nodes.groups.items) l.items) ls) (sym c.deref.ensures.value) within)

pub returns-in-Some-clause-bests : goal.returns-in-Some-clause-bests
returns-in-Some-clause-bests c =
    let nodes = c.args.nodes.now in
    let known = c.in-Some.known in
    let old = c.args.bests.now in
    let new = c.raise_bests.new.bests in
    let row = c.args.row.now in
    let changes = c.args.changes.now in
    let places = places_known nodes c.args.places.now known c.in-Some.is c.requires.places in
    let last = c.requires.changed in
    where_ok c.raise_bests.result (AreRaised old new (MemberTakes (lists_of c.deref.result.now) changes)) (AreBests nodes row new)
    (λ raised. bests_next nodes (lists_of known.items) last.0 row old new changes places last.1 last.2
    (subst (λ (ls : List (SmallVec ℕ)). AreRaised old new (MemberTakes (lists_of ls) changes)) c.deref.ensures.value raised))
    c.raise_bests.ensures.raised

pub returns-in-Some-clause-grown : goal.returns-in-Some-clause-grown
returns-in-Some-clause-grown c =
    let old = c.args.bests.now in
    let new = c.raise_bests.new.bests in
    where_ok c.raise_bests.result (AreRaised old new (MemberTakes (lists_of c.deref.result.now) c.args.changes.now)) ((k n : ℕ) → Takes (at_row old k) n → Takes (at_row new k) n)
    (λ raised k n t. (raised k n).1 (inl t)) c.raise_bests.ensures.raised
