-- One round of a search, and what comes before the first.
use Rattle.std.proofs.Common.{◌≡◌, ℕ, ◌+◌, ◌<◌, List, [], length, get_or, replicate, arith, ◌∙◌, subst, inl, inr}
use Rattle.std.specs.Prelude.{◌↔◌}
use Rattle.std.proofs.lemmas.List.Elements.{Contains-get_or}
use Rattle.cert_graph.specs.declared.reach.Reach.{Reach}
use Rattle.cert_graph.specs.declared.reach.Reach.TheVariants.{No}
use Rattle.cert_graph.specs.declared.nodes.Nodes.{Nodes}
use Rattle.cert_graph.specs.Reach.{Takes, IsAtMost}
use Rattle.cert_graph.specs.Adequate.{at_row, changed}
use Rattle.cert_graph.specs.Steps.{one_of}
use Rattle.cert_graph.specs.Nodes.{graph_of}
use Rattle.cert_graph.proofs.ReachFacts.{at_most_self}
use Rattle.cert_graph.specs.declared.changes.Change.{Change}
use Rattle.cert_search.specs.declared.rising.Rising.{Rising}
use Rattle.cert_search.specs.Rows.{IsRaisedBy, StandsUnder}
use Rattle.cert_search.specs.Rising.{HaveRisen, AreHanded, AreBests, IsRising, IsRound, IsBegun}
use Rattle.cert_search.proofs.Placing.{nothing_in}
use Rattle.cert_search.proofs.Handing.{offers_handed, risen_within, none_takes}

pub round : (nodes : Nodes) (old new : Rising) (changes : List Change) → IsRising nodes old
    → IsRaisedBy (graph_of nodes) old.offers.items new.row.items → changed old.row.items changes ≡ new.row.items → AreBests nodes new.row.items new.bests.items
    → AreHanded nodes new.handed.items new.offers.items → ((k c : ℕ) → Takes (at_row new.handed.items k) c ↔ Takes (at_row new.bests.items k) c) → ((v c : ℕ) → Takes (at_row old.offers.items v) c → Takes (at_row new.offers.items v) c)
    → HaveRisen old.offers.items new.offers.items [] new.risen.items
    → length new.row.items ≡ length old.row.items → length new.bests.items ≡ length old.bests.items → length new.handed.items ≡ length old.handed.items → length new.offers.items ≡ length old.offers.items
    → IsRound nodes old new changes
round nodes old new changes s raised made bests handed all grown risen rl bl hl ol =
    let offers_whole = ol ∙ s.offers_whole in record {
      rising = record {
        whole = rl ∙ s.whole;
        offers_whole = offers_whole;
        bests_whole = bl ∙ s.bests_whole;
        handed_whole = hl ∙ s.handed_whole;
        bests = bests;
        handed = handed;
        all_handed = all;
        below = λ v c t. let l = (raised v c).0 t in (l.0, l.1, grown v (c + one_of (graph_of nodes) v) l.2);
        within = λ v y. subst (λ (n : ℕ). v < n) offers_whole (risen_within old.offers.items new.offers.items new.risen.items risen v y);
        fresh = λ v. elim (risen.listed v) [
          | inl y ↦ inl y
          | inr e ↦ inr (λ c l. (raised v c).1 (l.0, l.1, subst (λ (r : Reach). Takes r (c + one_of (graph_of nodes) v)) e l.2))
        ];
      };
      raised = raised;
      offered = offers_handed nodes new.row.items new.bests.items new.handed.items new.offers.items bests handed all;
      changed = made;
      risen = risen;
    }

pub begun : (nodes : Nodes) (search : Rising) → search.row.items ≡ replicate (length nodes.items.items) No → AreBests nodes search.row.items search.bests.items
    → AreHanded nodes search.handed.items search.offers.items → ((k c : ℕ) → Takes (at_row search.handed.items k) c ↔ Takes (at_row search.bests.items k) c)
    → HaveRisen (replicate (length nodes.items.items) No) search.offers.items [] search.risen.items
    → length search.row.items ≡ length nodes.items.items → length search.offers.items ≡ length nodes.items.items → length search.bests.items ≡ length nodes.groups.items → length search.handed.items ≡ length nodes.groups.items
    → IsBegun nodes search
begun nodes search e bests handed all risen rl ol bl hl =
    let none : (v c : ℕ) → Takes (at_row search.row.items v) c → ⊥ = λ v c t. none_takes (length nodes.items.items) v c (subst (λ (rs : List Reach). Takes (at_row rs v) c) e t) in record {
      rising = record {
        whole = rl;
        offers_whole = ol;
        bests_whole = bl;
        handed_whole = hl;
        bests = bests;
        handed = handed;
        all_handed = all;
        below = λ v c t. absurd (none v c t);
        within = λ v y. subst (λ (n : ℕ). v < n) ol (risen_within (replicate (length nodes.items.items) No) search.offers.items search.risen.items risen v y);
        fresh = λ v. elim (risen.listed v) [
          | inl y ↦ inl y
          | inr same ↦ inr (λ c l. absurd (none_takes (length nodes.items.items) v (c + one_of (graph_of nodes) v) (subst (λ (r : Reach). Takes r (c + one_of (graph_of nodes) v)) same l.2)))
        ];
      };
      offered = offers_handed nodes search.row.items search.bests.items search.handed.items search.offers.items bests handed all;
      nothing = e;
    }

-- if an offer rose the offers are not stable
pub moves : (old new : List Reach) (risen : List ℕ) → HaveRisen old new [] risen → 0 < length risen → StandsUnder new old → ⊥
moves old new risen h some under = elim (h.rose (get_or risen 0 0) (Contains-get_or risen 0 0 some)) [ inl b ↦ nothing_in (get_or risen 0 0) b | inr n ↦ n (under (get_or risen 0 0)) ]

-- if none rose they do
pub stands : (old new : List Reach) (risen : List ℕ) → HaveRisen old new [] risen → length risen ≡ 0 → StandsUnder new old
stands old new risen h none v = elim (h.listed v) [
  | inl y ↦ absurd (omega (arith, y.1))
  | inr e ↦ subst (λ (r : Reach). IsAtMost (at_row new v) r) e (at_most_self (at_row new v))
]
