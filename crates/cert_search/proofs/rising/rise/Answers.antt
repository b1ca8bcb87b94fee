use Rattle.std.proofs.Common.{◌≡◌, ℕ, ◌<◌, ◌∙◌, [], sym, subst, ap, List, length, inl, inr}
use Rattle.std.specs.Prelude.{All, Contains, ◌⊎◌, ◌↔◌}
use Rattle.std.specs.Vec.{with_items}
use Rattle.std.proofs.lemmas.List.{with_items_is}
use Rattle.cert_graph.specs.declared.reach.Reach.{Reach}
use Rattle.cert_graph.specs.Reach.{Takes}
use Rattle.cert_graph.specs.Adequate.{at_row, changed}
use Rattle.cert_graph.specs.Nodes.{graph_of}
use Rattle.cert_graph.specs.declared.changes.Change.{Change}
use Rattle.cert_search.specs.Rows.{IsRaisedBy}
use Rattle.cert_search.specs.Rising.{AreRaised, HaveRisen, ChangeTakes, LetsThrough, AreHanded, AreBests}
use Rattle.cert_search.proofs.Handing.{all_within, risen_within}
use Rattle.cert_search.proofs.Rounding.{round}
use Rattle.cert_search.proofs.rising.rise.Goals as goal

pub raise_row-requires-clause-within : goal.raise_row-requires-clause-within
raise_row-requires-clause-within c =
    let size : length c.deref_mut.result.now ≡ length c.args.nodes.now.items.items = ap length c.deref_mut.ensures.value ∙ c.requires.rising.whole in
    subst (λ (n : ℕ). All (λ v. v < n) c.deref-2.result.now) (sym size)
    (subst (λ (xs : List ℕ). All (λ v. v < length c.args.nodes.now.items.items) xs) (sym c.deref-2.ensures.value) (all_within c.args.search.now.risen.items (length c.args.nodes.now.items.items) c.requires.rising.within))

pub raise_row-requires-clause-fresh : goal.raise_row-requires-clause-fresh
raise_row-requires-clause-fresh c v =
    subst (λ (xs : List ℕ). Contains xs v ⊎ ((n : ℕ) → LetsThrough (graph_of c.args.nodes.now) c.deref.result.now v n → Takes (at_row c.deref_mut.result.now v) n)) (sym c.deref-2.ensures.value)
    (subst (λ (os : List Reach). Contains c.args.search.now.risen.items v ⊎ ((n : ℕ) → LetsThrough (graph_of c.args.nodes.now) os v n → Takes (at_row c.deref_mut.result.now v) n)) (sym c.deref.ensures.value)
    (subst (λ (rs : List Reach). Contains c.args.search.now.risen.items v ⊎ ((n : ℕ) → LetsThrough (graph_of c.args.nodes.now) c.args.search.now.offers.items v n → Takes (at_row rs v) n)) (sym c.deref_mut.ensures.value)
    (c.requires.rising.fresh v)))

pub next_bests-requires-clause-changed : goal.next_bests-requires-clause-changed
next_bests-requires-clause-changed c =
    let nodes = c.args.nodes.now in
    let old = c.args.search.now in
    let next = c.raise_row.new.row in
    let changes = c.in_ok-changes.changes.items in
    let row = with_items_is old.row next (c.raise_row.auto.row ∙ c.deref_mut.ensures.len) in (
      old.row.items,
      subst (λ (bs : List Reach). AreBests nodes old.row.items bs) (sym c.deref_mut-2.ensures.value) c.requires.rising.bests,
      subst (λ (xs : List Change). AreRaised old.row.items c.deref-3.result.now (ChangeTakes xs)) (sym c.deref-4.ensures.value)
          (subst (λ (rs : List Reach). AreRaised old.row.items rs (ChangeTakes changes)) (sym (c.deref-3.ensures.value ∙ row))
          (subst (λ (rs : List Reach). AreRaised rs next (ChangeTakes changes)) c.deref_mut.ensures.value c.in_ok-changes.ensures.taken)),
    )

pub hand_on-requires-clause-within : goal.hand_on-requires-clause-within
hand_on-requires-clause-within c =
    let size : length c.next_bests.new.bests ≡ length c.args.nodes.now.groups.items = c.next_bests.auto.bests ∙ ap length c.deref_mut-2.ensures.value ∙ c.requires.rising.bests_whole in
    subst (λ (xs : List ℕ). All (λ v. v < length c.args.nodes.now.groups.items) xs) (sym c.deref-6.ensures.value)
    (all_within c.in_ok-groups.groups.items (length c.args.nodes.now.groups.items)
    (λ v y. subst (λ (n : ℕ). v < n) size (risen_within c.deref_mut-2.result.now c.next_bests.new.bests c.in_ok-groups.groups.items c.in_ok-groups.ensures.risen v y)))

pub hand_on-requires-clause-below : goal.hand_on-requires-clause-below
hand_on-requires-clause-below c k n t =
    let size : length c.next_bests.new.bests ≡ c.args.search.now.bests.len = c.next_bests.auto.bests ∙ c.deref_mut-2.ensures.len in
    let e = with_items_is c.args.search.now.bests c.next_bests.new.bests size in
    let handed : Takes (at_row c.args.search.now.handed.items k) n = subst (λ (hs : List Reach). Takes (at_row hs k) n) c.deref_mut-3.ensures.value t in
    let old : Takes (at_row c.deref_mut-2.result.now k) n = subst (λ (bs : List Reach). Takes (at_row bs k) n) (sym c.deref_mut-2.ensures.value) ((c.requires.rising.all_handed k n).0 handed) in
    subst (λ (bs : List Reach). Takes (at_row bs k) n) (sym (c.deref-5.ensures.value ∙ e)) (c.in_ok-groups.ensures.grown k n old)

pub hand_on-requires-clause-listed : goal.hand_on-requires-clause-listed
hand_on-requires-clause-listed c k =
    let size : length c.next_bests.new.bests ≡ c.args.search.now.bests.len = c.next_bests.auto.bests ∙ c.deref_mut-2.ensures.len in
    let e = with_items_is c.args.search.now.bests c.next_bests.new.bests size in
    subst (λ (xs : List ℕ). Contains xs k ⊎ ((n : ℕ) → Takes (at_row c.deref-5.result.now k) n → Takes (at_row c.deref_mut-3.result.now k) n)) (sym c.deref-6.ensures.value)
    (subst (λ (bs : List Reach). Contains c.in_ok-groups.groups.items k ⊎ ((n : ℕ) → Takes (at_row bs k) n → Takes (at_row c.deref_mut-3.result.now k) n)) (sym (c.deref-5.ensures.value ∙ e))
    (subst (λ (hs : List Reach). Contains c.in_ok-groups.groups.items k ⊎ ((n : ℕ) → Takes (at_row c.next_bests.new.bests k) n → Takes (at_row hs k) n)) (sym c.deref_mut-3.ensures.value)
    (elim (c.in_ok-groups.ensures.risen.listed k) [
      | inl y ↦ inl y
      | inr same ↦ inr (λ n t. (c.requires.rising.all_handed k n).1 (subst (λ (bs : List Reach). Takes (at_row bs k) n) c.deref_mut-2.ensures.value (subst (λ (r : Reach). Takes r n) same t)))
    ])))

pub hand_on-requires-clause-handed : goal.hand_on-requires-clause-handed
hand_on-requires-clause-handed c =
    subst (λ (hs : List Reach). AreHanded c.args.nodes.now hs c.deref_mut-4.result.now) (sym c.deref_mut-3.ensures.value)
    (subst (λ (os : List Reach). AreHanded c.args.nodes.now c.args.search.now.handed.items os) (sym c.deref_mut-4.ensures.value) c.requires.rising.handed)

pub returns : goal.returns
returns c =
    let nodes = c.args.nodes.now in
    let old = c.args.search.now in
    let row = with_items_is old.row c.raise_row.new.row (c.raise_row.auto.row ∙ c.deref_mut.ensures.len) in
    let bests = with_items_is old.bests c.next_bests.new.bests (c.next_bests.auto.bests ∙ c.deref_mut-2.ensures.len) in
    let handed = with_items_is old.handed c.hand_on.new.handed (c.hand_on.auto.handed ∙ c.deref_mut-3.ensures.len) in
    let offers = with_items_is old.offers c.hand_on.new.offers (c.hand_on.auto.offers ∙ c.deref_mut-4.ensures.len) in
    let g = graph_of nodes in
    let changes = c.in_ok-changes.changes.items in
    let r = c.in_ok-changes.ensures in
    let b = c.in_ok-groups.ensures in
    let h = c.in_ok-search.ensures in
    let raised : IsRaisedBy g old.offers.items c.raise_row.new.row = subst (λ (os : List Reach). IsRaisedBy g os c.raise_row.new.row) c.deref.ensures.value r.raised in
    let made : changed old.row.items changes ≡ c.raise_row.new.row = subst (λ (rs : List Reach). changed rs changes ≡ c.raise_row.new.row) c.deref_mut.ensures.value r.changed in
    let better : AreBests nodes c.raise_row.new.row c.next_bests.new.bests = subst (λ (rs : List Reach). AreBests nodes rs c.next_bests.new.bests) (c.deref-3.ensures.value ∙ row) b.bests in
    let all : (k n : ℕ) → Takes (at_row c.hand_on.new.handed k) n ↔ Takes (at_row c.next_bests.new.bests k) n =
    subst (λ (bs : List Reach). (k n : ℕ) → Takes (at_row c.hand_on.new.handed k) n ↔ Takes (at_row bs k) n) (c.deref-5.ensures.value ∙ bests) h.all_handed in
    let grown : (v n : ℕ) → Takes (at_row old.offers.items v) n → Takes (at_row c.hand_on.new.offers v) n =
    subst (λ (os : List Reach). (v n : ℕ) → Takes (at_row os v) n → Takes (at_row c.hand_on.new.offers v) n) c.deref_mut-4.ensures.value h.grown in
    let risen : HaveRisen old.offers.items c.hand_on.new.offers [] c.in_ok-search.field-0.items =
    subst (λ (os : List Reach). HaveRisen os c.hand_on.new.offers [] c.in_ok-search.field-0.items) c.deref_mut-4.ensures.value h.risen in
    round nodes old _ changes c.requires.rising
    (subst (λ (rs : List Reach). IsRaisedBy g old.offers.items rs) (sym row) raised)
    (made ∙ sym row)
    (subst (λ (rs : List Reach). AreBests nodes rs (with_items old.bests c.next_bests.new.bests).items) (sym row) (subst (λ (bs : List Reach). AreBests nodes c.raise_row.new.row bs) (sym bests) better))
    (subst (λ (hs : List Reach). AreHanded nodes hs (with_items old.offers c.hand_on.new.offers).items) (sym handed) (subst (λ (os : List Reach). AreHanded nodes c.hand_on.new.handed os) (sym offers) h.handed))
    (subst (λ (hs : List Reach). (k n : ℕ) → Takes (at_row hs k) n ↔ Takes (at_row (with_items old.bests c.next_bests.new.bests).items k) n) (sym handed)
    (subst (λ (bs : List Reach). (k n : ℕ) → Takes (at_row c.hand_on.new.handed k) n ↔ Takes (at_row bs k) n) (sym bests) all))
    (subst (λ (os : List Reach). (v n : ℕ) → Takes (at_row old.offers.items v) n → Takes (at_row os v) n) (sym offers) grown)
    (subst (λ (os : List Reach). HaveRisen old.offers.items os [] c.in_ok-search.field-0.items) (sym offers) risen)
    (ap length row ∙ c.raise_row.auto.row ∙ ap length c.deref_mut.ensures.value)
    (ap length bests ∙ c.next_bests.auto.bests ∙ ap length c.deref_mut-2.ensures.value)
    (ap length handed ∙ c.hand_on.auto.handed ∙ ap length c.deref_mut-3.ensures.value)
    (ap length offers ∙ c.hand_on.auto.offers ∙ ap length c.deref_mut-4.ensures.value)
