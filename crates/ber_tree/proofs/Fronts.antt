-- What is read at the top.
use Rattle.std.proofs.Common.{◌≡◌, ◌∙◌, sym, ap, refl, inl, inr, ℕ, ◌-◌, ◌<◌, Some, List, [], ◌∷◌, ◌++◌, false, Bor, Result, Ok, Err, IfOk, IfErr, MatchResult, arith}
use Rattle.asn1_core.specs.declared.error.Error.{Error}
use Rattle.asn1_core.specs.declared.outcome.Err.{Err as Refusal}
use Rattle.asn1_any.specs.BerElements.{BerElement, IsWithin, SpellsBer, HasBerElement, end_of_contents}
use Rattle.der_tree.specs.declared.object.BerObject.{BerObject}
use Rattle.der_tree.specs.Outcome.{Refuses, WantsMemory}
use Rattle.der_tree.specs.Tree.{Tree, octets}
use Rattle.der_tree.specs.View.{view}
use Rattle.der_tree.proofs.Exits.{only_memory, weaker}
use Rattle.ber_tree.specs.Object.{IsBerTree, BeginsWithBerObject, BeginsWithBerTree, end_tree}
use Rattle.ber_tree.proofs.Objects.{object_element}
use Rattle.ber_tree.proofs.OneTree.{one_tree_lem}

-- end-of-contents octets are an element of no octets
end_element : BerElement
end_element = record { head = record { class = 0; constructed = false; tag = 0; size = Some 0 }; content = [] }

end_spells : (k : ℕ) → SpellsBer (IsWithin k) end_of_contents end_element
unfolding end_element
end_spells k = record {
  header = end_of_contents;
  body = [];
  in_range = record { class = omega arith; tag = omega arith; size = omega arith };
  spells = record { identifier = 0 ∷ []; size = 0 ∷ []; whole = refl; spells_identifier = inl (omega arith, refl); spells_length = inl (omega arith, refl) };
  closes = (refl, refl);
  whole = refl;
}

pub tree_element : (k : ℕ) (s : List ℕ) → BeginsWithBerTree k s → (0 < k) × HasBerElement (k - 1) s
tree_element k s (t, rest, inl p, whole) = object_element k s (t, rest, p, whole)
tree_element k s (t, rest, inr p, whole) =
    (p.0, (end_element, rest, record { front = end_of_contents; spells = end_spells (k - 1); whole = whole ∙ ap (λ z. octets z ++ rest) p.1 }))

-- an object that begins the octets is the one that is read, unless memory ran out
pub read_only : (k : ℕ) (i r : List ℕ) (t : Tree) (result : Result (Bor (List ℕ) × BerObject) (Refusal Error)) → IfOk result (λ p. IsBerTree k (view p.1) × (i ≡ octets (view p.1) ++ p.0.now)) →
    IfErr result (λ e. Refuses e (BeginsWithBerTree k i → ⊥)) → IsBerTree k t → i ≡ octets t ++ r → MatchResult result (λ p. (view p.1 ≡ t) × (p.0.now ≡ r)) WantsMemory
read_only k i r t (Ok p) found none is split = one_tree_lem k k (view p.1) t p.0.now r found.0 is (sym found.1 ∙ split)
read_only k i r t (Err e) found none is split = only_memory e (BeginsWithBerTree k i) none (t, r, is, split)

-- if end-of-contents octets don't begin the octets, or there is no level for them
pub none_begins : (k : ℕ) (i : List ℕ) (e : Refusal Error) → Refuses e (BeginsWithBerObject k i → ⊥) → (0 < k → (r : List ℕ) → i ≡ octets end_tree ++ r → ⊥) → Refuses e (BeginsWithBerTree k i → ⊥)
none_begins k i e none no_end =
    weaker e _ _ (λ f (p : BeginsWithBerTree k i). elim p.2 [
      | inl q ↦ f (p.0, p.1, q, p.3)
      | inr q ↦ no_end q.0 p.1 (p.3 ∙ ap (λ z. octets z ++ p.1) q.1)
    ]) none

pub all_begins : (k : ℕ) (i : List ℕ) (result : Result (Bor (List ℕ) × BerObject) (Refusal Error)) → IfErr result (λ e. Refuses e (BeginsWithBerObject k i → ⊥)) →
    (0 < k → (r : List ℕ) → i ≡ octets end_tree ++ r → ⊥) → IfErr result (λ e. Refuses e (BeginsWithBerTree k i → ⊥))
all_begins k i (Ok p) none no_end = tt
all_begins k i (Err e) none no_end = none_begins k i e none no_end
