use Rattle.std.proofs.Common.{◌≡◌, ℕ, ◌<◌, ◌∙◌, [], sym, subst, ap, List, length, replicate, arith, inl, inr}
use Rattle.std.specs.Prelude.{All, Contains, ◌⊎◌, ◌↔◌}
use Rattle.std.specs.Vec.{with_items}
use Rattle.std.proofs.lemmas.List.{with_items_is, length-replicate}
use Rattle.cert_graph.specs.declared.reach.Reach.{Reach}
use Rattle.cert_graph.specs.declared.reach.Reach.TheVariants.{No, Any as Each}
use Rattle.cert_graph.specs.Reach.{Takes}
use Rattle.cert_graph.specs.Adequate.{at_row}
use Rattle.cert_search.specs.Rising.{AreRaised, HaveRisen, AreHanded, AreBests}
use Rattle.cert_search.proofs.Handing.{all_within, risen_within, none_takes, bests_none}
use Rattle.cert_search.proofs.Rounding.{begun}
use Rattle.cert_search.proofs.rising.begin.Goals as goal

pub raise_to-requires : goal.raise_to-requires
raise_to-requires c =
    let groups = length c.args.nodes.now.groups.items in
    let count : c.len.result ≡ length c.args.nodes.now.groups.items = omega arith in
    let none = c.deref_mut.ensures.value ∙ c.in_ok-bests.ensures ∙ ap (λ (n : ℕ). replicate n No) count in
    let size : length c.deref_mut.result.now ≡ groups = ap length none ∙ length-replicate groups No in
    subst (λ (m : ℕ). All (λ v. v < m) c.deref.result.now) (sym size)
    (subst (λ (xs : List ℕ). All (λ v. v < groups) xs) (sym c.deref.ensures.value)
    (all_within c.in_ok-anchored.anchored.items groups (λ v y. let x = (c.in_ok-anchored.ensures v).0 y in x.1.0)))

pub hand_on-requires-clause-within : goal.hand_on-requires-clause-within
hand_on-requires-clause-within c =
    let groups = length c.args.nodes.now.groups.items in
    let count : c.len.result ≡ length c.args.nodes.now.groups.items = omega arith in
    let none = c.deref_mut.ensures.value ∙ c.in_ok-bests.ensures ∙ ap (λ (n : ℕ). replicate n No) count in
    let size : length c.raise_to.new.row ≡ groups = c.raise_to.auto.row ∙ ap length none ∙ length-replicate groups No in
    let risen : HaveRisen c.deref_mut.result.now c.raise_to.new.row [] c.raise_to.new.risen.items =
    subst (λ (xs : List ℕ). HaveRisen c.deref_mut.result.now c.raise_to.new.row xs c.raise_to.new.risen.items) c.new-groups.ensures.items c.in_ok-raise_to.ensures.risen in
    subst (λ (xs : List ℕ). All (λ v. v < groups) xs) (sym c.deref-3.ensures.value)
    (all_within c.raise_to.new.risen.items groups (λ v y. subst (λ (n : ℕ). v < n) size (risen_within c.deref_mut.result.now c.raise_to.new.row c.raise_to.new.risen.items risen v y)))

pub hand_on-requires-clause-listed : goal.hand_on-requires-clause-listed
hand_on-requires-clause-listed c k =
    let groups = length c.args.nodes.now.groups.items in
    let count : c.len.result ≡ length c.args.nodes.now.groups.items = omega arith in
    let none : c.deref_mut.result.now ≡ replicate groups No = c.deref_mut.ensures.value ∙ c.in_ok-bests.ensures ∙ ap (λ (n : ℕ). replicate n No) count in
    let e = c.deref-2.ensures.value ∙ with_items_is c.in_ok-bests.bests c.raise_to.new.row (c.raise_to.auto.row ∙ c.deref_mut.ensures.len) in
    subst (λ (xs : List ℕ). Contains xs k ⊎ ((n : ℕ) → Takes (at_row c.deref-2.result.now k) n → Takes (at_row c.deref_mut-2.result.now k) n)) (sym c.deref-3.ensures.value)
    (subst (λ (bs : List Reach). Contains c.raise_to.new.risen.items k ⊎ ((n : ℕ) → Takes (at_row bs k) n → Takes (at_row c.deref_mut-2.result.now k) n)) (sym e)
    (elim (c.in_ok-raise_to.ensures.risen.listed k) [
      | inl y ↦ inl y
      | inr same ↦ inr (λ n t. absurd (none_takes groups k n (subst (λ (bs : List Reach). Takes (at_row bs k) n) none (subst (λ (r : Reach). Takes r n) same t))))
    ]))

pub returns : goal.returns
returns c =
    let nodes = c.args.nodes.now in
    let groups = length c.args.nodes.now.groups.items in
    let items = length c.args.nodes.now.items.items in
    let count : c.len.result ≡ length c.args.nodes.now.groups.items = omega arith in
    let count2 : c.len-2.result ≡ length c.args.nodes.now.groups.items = omega arith in
    let count3 : c.len-3.result ≡ length c.args.nodes.now.items.items = omega arith in
    let count4 : c.len-4.result ≡ length c.args.nodes.now.items.items = omega arith in
    let anchored = c.in_ok-anchored.anchored.items in
    let none : c.deref_mut.result.now ≡ replicate groups No = c.deref_mut.ensures.value ∙ c.in_ok-bests.ensures ∙ ap (λ (n : ℕ). replicate n No) count in
    let none2 : c.deref_mut-2.result.now ≡ replicate groups No = c.deref_mut-2.ensures.value ∙ c.in_ok-handed.ensures ∙ ap (λ (n : ℕ). replicate n No) count2 in
    let none3 : c.deref_mut-3.result.now ≡ replicate items No = c.deref_mut-3.ensures.value ∙ c.in_ok-offers.ensures ∙ ap (λ (n : ℕ). replicate n No) count3 in
    let row : c.in_ok-row.row.items ≡ replicate items No = c.in_ok-row.ensures ∙ ap (λ (n : ℕ). replicate n No) count4 in
    let bests = with_items_is c.in_ok-bests.bests c.raise_to.new.row (c.raise_to.auto.row ∙ c.deref_mut.ensures.len) in
    let handed = with_items_is c.in_ok-handed.handed c.hand_on.new.handed (c.hand_on.auto.handed ∙ c.deref_mut-2.ensures.len) in
    let offers = with_items_is c.in_ok-offers.offers c.hand_on.new.offers (c.hand_on.auto.offers ∙ c.deref_mut-3.ensures.len) in
    let raised : AreRaised (replicate groups No) c.raise_to.new.row (λ k n. Contains anchored k × Takes Each n) =
    subst (λ (bs : List Reach). AreRaised bs c.raise_to.new.row (λ k n. Contains anchored k × Takes Each n)) none
    (subst (λ (xs : List ℕ). AreRaised c.deref_mut.result.now c.raise_to.new.row (λ k n. Contains xs k × Takes Each n)) c.deref.ensures.value c.in_ok-raise_to.ensures.raised) in
    let h = c.in_ok-risen.ensures in
    let all : (k n : ℕ) → Takes (at_row c.hand_on.new.handed k) n ↔ Takes (at_row c.raise_to.new.row k) n =
    subst (λ (bs : List Reach). (k n : ℕ) → Takes (at_row c.hand_on.new.handed k) n ↔ Takes (at_row bs k) n) (c.deref-2.ensures.value ∙ bests) h.all_handed in
    let risen : HaveRisen (replicate items No) c.hand_on.new.offers [] c.in_ok-risen.risen.items =
    subst (λ (os : List Reach). HaveRisen os c.hand_on.new.offers [] c.in_ok-risen.risen.items) none3 h.risen in
    begun nodes _ row
    (subst (λ (bs : List Reach). AreBests nodes c.in_ok-row.row.items bs) (sym bests) (subst (λ (rs : List Reach). AreBests nodes rs c.raise_to.new.row) (sym row)
    (bests_none nodes anchored groups items c.raise_to.new.row c.in_ok-anchored.ensures raised)))
    (subst (λ (hs : List Reach). AreHanded nodes hs (with_items c.in_ok-offers.offers c.hand_on.new.offers).items) (sym handed) (subst (λ (os : List Reach). AreHanded nodes c.hand_on.new.handed os) (sym offers) h.handed))
    (subst (λ (hs : List Reach). (k n : ℕ) → Takes (at_row hs k) n ↔ Takes (at_row (with_items c.in_ok-bests.bests c.raise_to.new.row).items k) n) (sym handed)
    (subst (λ (bs : List Reach). (k n : ℕ) → Takes (at_row c.hand_on.new.handed k) n ↔ Takes (at_row bs k) n) (sym bests) all))
    (subst (λ (os : List Reach). HaveRisen (replicate items No) os [] c.in_ok-risen.risen.items) (sym offers) risen)
    (ap length row ∙ length-replicate items No)
    (ap length offers ∙ c.hand_on.auto.offers ∙ ap length none3 ∙ length-replicate items No)
    (ap length bests ∙ c.raise_to.auto.row ∙ ap length none ∙ length-replicate groups No)
    (ap length handed ∙ c.hand_on.auto.handed ∙ ap length none2 ∙ length-replicate groups No)
