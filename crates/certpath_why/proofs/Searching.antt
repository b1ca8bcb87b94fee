-- Certificates of one kind are held back alike, by what vouches for less.
use Rattle.std.specs.Prelude.{IsTrue}
use Rattle.std.proofs.Common.{◌≡◌, ◌∙◌, sym, subst, refl, ℕ, Bool, true, cond, List, Vec, Global, inl, inr}
use Rattle.std.specs.List.{list_any}
use Rattle.std.specs.BTreeMap.{is_at}
use Rattle.std.specs.BTreeSet as sorted
use Rattle.std.specs.BTreeSet.{BTreeSet}
use Rattle.std.proofs.lemmas.Bool.{cases_Bool, cond-false, false≢true}
use Rattle.cert_graph.specs.Entries.{IsAt}
use Rattle.cert_graph.specs.declared.reach.Reach.{Reach}
use Rattle.cert_graph.specs.declared.reach.Reach.TheVariants.{No}
use Rattle.cert_graph.proofs.Gathering.{E, same}
use Rattle.cert_judge.specs.declared.items.CertificateItem.{CertificateItem}
use Rattle.cert_judge.specs.declared.items.ReadItem.TheVariants.{Certificate as certificate_read}
use Rattle.cert_judge.specs.ItemGraph.{IsLink, KeyIdsAgree}
use Rattle.cert_judge.specs.Items.{rules_by}
use Rattle.cert_judge.specs.Vouching.{Vouching}
use Rattle.certpath_why.specs.Bounds.{IsCounted, IsHeldBack}
use Rattle.certpath_why.specs.Found.{IsMarked, AreMarked}
use Rattle.certpath_why.specs.Held.{AreDone, AreSearchFirsts, IsSearchKind}
use Rattle.certpath_why.specs.Kinds.{kind_cmp, named_by}
use Rattle.certpath_why.specs.Question.{items_in}
use Rattle.certpath_why.specs.declared.question.Question.{Question}
use Rattle.certpath_why.proofs.Alike.{agree_alike, alike, linked_alike}
use Rattle.certpath_why.proofs.Items.{at_read}

-- ---- marks

-- those of a kind that is done were marked
pub marks_there : (P : ℕ → Type 0) (marks : List Bool) → ((u : ℕ) → P u → IsMarked marks u) → AreMarked P marks marks
marks_there P marks there = record { count = refl; exact = λ u. (λ m. inl m, λ s. elim s [ inl m ↦ m | inr p ↦ there u p ]) }

pub none_done : {V : Type 0} (question : Question V) (search : Vouching) (firsts : List ℕ) (reach : ℕ → Reach) (done : BTreeSet (Vec ℕ Global)) (marks : List Bool) → sorted.IsEmpty done → AreDone question search firsts reach done marks
none_done question search firsts reach done marks empty kind has = absurd (false≢true (subst (λ (ks : List (Vec ℕ Global)). IsTrue (list_any (is_at (kind_cmp kind)) ks)) empty has))

-- one that counts and leads nowhere is held back by whoever holds back another of its kind
pub held_by_kind : {V : Type 0} (question : Question V) (search : Vouching) (firsts : List ℕ) (reach : ℕ → Reach) (p q : ℕ) (x y : CertificateItem) (kind : Vec ℕ Global) → AreSearchFirsts question search firsts
    → IsAt question.found.now.items.now p (λ z. z ≡ certificate_read x) → IsAt question.found.now.items.now q (λ z. z ≡ certificate_read y) → IsSearchKind question firsts p x kind.items → IsSearchKind question firsts q y kind.items
    → reach p ≡ No → IsCounted (items_in question) p → (v : ℕ) → IsHeldBack (rules_by question.policy.now.moment question.policy.now.demand_lists search) (items_in question) reach q v
    → IsHeldBack (rules_by question.policy.now.moment question.policy.now.demand_lists search) (items_in question) reach p v
held_by_kind question search firsts reach p q x y kind are at bt a b nowhere counts v back =
    let xs = question.found.now.items.now in
    let items = items_in question in
    let moment = question.policy.now.moment in
    let demand = question.policy.now.demand_lists in
    let r = rules_by moment demand search in
    let same_links = alike search moment xs xs question.signers.now.classes question.revoking.now.rows.items firsts KeyIdsAgree (named_by y) (named_by x) q p y x kind.items are bt at b a (agree_alike y x) in
    let mine = (at_read (λ z. IsAt items v (IsLink r items z)) xs q y bt).1 back.linked in
    let yours = linked_alike search moment demand xs y x same_links v mine in
    record {
      leads_nowhere = nowhere;
      counts = counts;
      linked = (at_read (λ z. IsAt items v (IsLink r items z)) xs p x at).0 yours;
      bounded = back.bounded;
    }

pub done_more : {V : Type 0} (question : Question V) (search : Vouching) (firsts : List ℕ) (reach : ℕ → Reach) (p : ℕ) (old new : BTreeSet (Vec ℕ Global)) (kind : Vec ℕ Global) (marks more : List Bool) → AreDone question search firsts reach old marks
    → AreMarked (IsHeldBack (rules_by question.policy.now.moment question.policy.now.demand_lists search) (items_in question) reach p) marks more
    → ((q : Vec ℕ Global) → sorted.contains kind_cmp new q ≡ cond (E kind.items q.items) true (sorted.contains kind_cmp old q))
    → ((q : ℕ) (y : CertificateItem) → IsAt question.found.now.items.now q (λ z. z ≡ certificate_read y) → IsSearchKind question firsts q y kind.items
    → (v : ℕ) → IsHeldBack (rules_by question.policy.now.moment question.policy.now.demand_lists search) (items_in question) reach q v → IsHeldBack (rules_by question.policy.now.moment question.policy.now.demand_lists search) (items_in question) reach p v)
    → AreDone question search firsts reach new more
done_more question search firsts reach p old new kind marks more h marked update own k has q y at is v back = elim (cases_Bool (E kind.items k.items)) [
  | inl eq ↦
      let key : kind.items ≡ k.items = (same kind.items k.items).0 eq in
      (marked.exact v).1 (inr (own q y at (subst (IsSearchKind question firsts q y) (sym key) is) v back))
  | inr un ↦ (marked.exact v).1 (inl (h k (sym (update k ∙ cond-false _ _ _ un) ∙ has) q y at is v back))
]
