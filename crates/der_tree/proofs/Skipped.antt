-- What the steps that skip objects keep.
use Rattle.std.proofs.Common.{◌≡◌, ◌∙◌, sym, ap, refl, subst, ℕ, ◌+◌, ◌==◌, ◌↔◌, IsTrue, List, [], ◌++◌, Bool, length, arith}
use Rattle.std.proofs.lemmas.Bool.{eqb-true, eq-eqb}
use Rattle.std.proofs.lemmas.List.{append-nil, nil_from_length}
use Rattle.asn1_core.specs.Elements.{Element}
use Rattle.der_tree.specs.Object.{IsDerObject}
use Rattle.der_tree.specs.Shape.{IsObject, IsContent, AreObjects, HoldsLeaf, BeginsWithObject}
use Rattle.der_tree.specs.Table.{IsConstructed}
use Rattle.der_tree.specs.Tree.{Tree, Content, leaf, sequence, set, Trees, octets, all_octets, part_count}
use Rattle.der_tree.proofs.Leveled.{object_from, object_to}
use Rattle.der_tree.proofs.Objects.{no_leaf, object_once}
use Rattle.der_tree.proofs.OneTree.{one_tree_lem}

-- the parts of a sequence, and of a set

pub sequence_parts : (k : ℕ) (e : Element) → IsConstructed e 16 → (c : Content) → IsContent k e c → (ts : Trees) × AreObjects k ts × (e.content ≡ all_octets ts)
unfolding IsContent
sequence_parts k e p (leaf v) q = absurd (no_leaf 16 e v refl p q)
sequence_parts k e p (sequence ts) q = (ts, q.2, q.1)
sequence_parts k e p (set ts) q = absurd (omega (arith, p.tag, q.0.tag))

pub set_parts : (k : ℕ) (e : Element) → IsConstructed e 17 → (c : Content) → IsContent k e c → (ts : Trees) × AreObjects k ts × (e.content ≡ all_octets ts)
unfolding IsContent
set_parts k e p (leaf v) q = absurd (no_leaf 17 e v refl p q)
set_parts k e p (sequence ts) q = absurd (omega (arith, p.tag, q.0.tag))
set_parts k e p (set ts) q = (ts, q.2, q.1)

-- a content without parts counts for nothing
pub no_parts : (e : Element) (c : Content) → HoldsLeaf e c → (n : ℕ) → n ≡ n + part_count c
no_parts e (leaf v) p n = omega arith
no_parts e (sequence ts) p n = absurd p
no_parts e (set ts) p n = absurd p

-- if an object begins the octets, they are one if nothing comes after it
pub alone : (k : ℕ) (s rest : List ℕ) (t : Tree) (b : Bool) → IsObject k t → s ≡ octets t ++ rest → b ≡ (length rest == 0) → IsTrue b ↔ IsDerObject k s
alone k s rest t b is split empty = (
  λ yes.
      let none : rest ≡ [] = nil_from_length rest (eqb-true (length rest) 0 (sym empty ∙ yes)) in
      subst (IsDerObject k) (sym (split ∙ ap (λ z. octets t ++ z) none ∙ append-nil (octets t))) (object_from t k is),
  λ object.
      let u = object_to k s object in
      let once = object_once k k t u.0 rest [] is u.1 (sym split ∙ sym (append-nil s) ∙ ap (λ z. z ++ []) (sym u.2)) in
      empty ∙ eq-eqb (length rest) 0 (ap length once.1),
)

-- and if none does, they aren't
pub none_begins : (k : ℕ) (s : List ℕ) → (BeginsWithObject k s → ⊥) → IsDerObject k s → ⊥
none_begins k s none object = let u = object_to k s object in none (u.0, [], u.1, sym u.2 ∙ sym (append-nil (octets u.0)))

-- an object of all the octets is the one that begins them
pub same_alone : (k : ℕ) (s rest : List ℕ) (t u : Tree) → IsObject k t → s ≡ octets t ++ rest → IsObject k u → octets u ≡ s → t ≡ u
same_alone k s rest t u is split other same = (one_tree_lem k k t u rest [] is other (sym split ∙ sym (append-nil s) ∙ ap (λ z. z ++ []) (sym same))).0
