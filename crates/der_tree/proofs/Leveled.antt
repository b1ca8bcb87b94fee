-- An object by its octets is what has a tree.
use Rattle.std.proofs.Common.{◌≡◌, ◌∙◌, sym, ap, refl, ℕ, ◌-◌, zero, suc, List, [], ◌∷◌, ◌++◌, Bool, true, false, ◌||◌, ◌==◌, arith, if◌then◌else◌}
use Rattle.std.specs.List.{flat_map, AllByRecursion}
use Rattle.std.specs.Int.Digits.{number_from_digits}
use Rattle.std.proofs.lemmas.Bool.{eqb-true}
use Rattle.asn1_core.specs.Elements.{Element, head_of_element}
use Rattle.der_tree.specs.Table as table
use Rattle.der_tree.specs.Table.{Stands, is_boolean, is_bit_string}
use Rattle.der_tree.specs.Object.{AreAll, IsDerObject}
use Rattle.der_tree.specs.Tree as tree
use Rattle.der_tree.specs.Tree.{Leaf, Tree, node, Content, leaf, Trees, none, more, octets, all_octets}
use Rattle.der_tree.specs.Shape.{Holds, IsObject, IsContent, AreObjects}

-- from a tree to its octets

from_leaf : (P : List ℕ → Type 0) (e : Element) (v : Leaf) → Holds e v → Stands P e
from_leaf P e tree.end_of_content p = absurd p
from_leaf P e (tree.boolean true) p = table.boolean p.0 (ap is_boolean p.1)
from_leaf P e (tree.boolean false) p = table.boolean p.0 (ap is_boolean p.1)
from_leaf P e (tree.bit_string unused s) p = table.bit_string p.0 p.2
from_leaf P e tree.null p = table.null p.0 p.1
from_leaf P e (tree.oid s) p = table.oid p.0 p.2
from_leaf P e (tree.enumerated n) p = table.enumerated p.0 p.2
from_leaf P e (tree.plain k s) p = table.plain k p.0 p.2
from_leaf P e (tree.raw f) p = table.raw p.0

mutual
  unfolding IsObject IsContent AreObjects IsDerObject

  pub object_from : (t : Tree) (k : ℕ) → IsObject k t → IsDerObject k (octets t)
  object_from (node h s c) zero p = absurd (omega (arith, p.0))
  object_from (node h s c) (suc k) p =
      let e : suc k - 1 ≡ k = omega arith in
      (p.1, p.3, content_from c k p.1 (rw e at p.4))

  content_from : (c : Content) (k : ℕ) (e : Element) → IsContent k e c → Stands (AreAll (IsDerObject k)) e
  content_from (leaf v) k e p = from_leaf (AreAll (IsDerObject k)) e v p
  content_from (tree.sequence ts) k e p = let m = all_from ts k p.2 in table.sequence p.0 (m.0, m.1, p.1 ∙ m.2)
  content_from (tree.set ts) k e p = let m = all_from ts k p.2 in table.set p.0 (m.0, m.1, p.1 ∙ m.2)

  all_from : (ts : Trees) (k : ℕ) → AreObjects k ts → AreAll (IsDerObject k) (all_octets ts)
  all_from none k p = ([], tt, refl)
  all_from (more t ts) k p =
      let m = all_from ts k p.1 in
      (octets t ∷ m.0, (object_from t k p.0, m.1), ap (λ z. octets t ++ z) m.2)

-- from octets to their tree

to_trees : (k : ℕ) → ((s : List ℕ) → IsDerObject k s → (t : Tree) × IsObject k t × (octets t ≡ s)) → (pieces : List (List ℕ)) → AllByRecursion (IsDerObject k) pieces →
    (ts : Trees) × AreObjects k ts × (all_octets ts ≡ flat_map (λ piece. piece) pieces)
unfolding AreObjects
to_trees k f [] p = (none, tt, refl)
to_trees k f (s ∷ pieces) p =
    let m = f s p.0 in
    let n = to_trees k f pieces p.1 in
    (more m.0 n.0, (m.1, n.1), ap (λ z. z ++ all_octets n.0) m.2 ∙ ap (λ z. s ++ z) n.2)

to_bit : (a : ℕ) (u v : Bool) → (a == 0) ≡ u → (a == 255) ≡ v → (u || v) ≡ true → (b : Bool) × (a ≡ (if b then 255 else 0))
to_bit a true v x y p = (false, eqb-true a 0 x)
to_bit a false true x y p = (true, eqb-true a 255 y)
to_bit a false false x y p = absurd cc

pub to_boolean : (a : List ℕ) → is_boolean a ≡ true → (b : Bool) × (a ≡ (if b then 255 else 0) ∷ [])
to_boolean [] p = absurd cc
to_boolean (a ∷ []) p = let m = to_bit a (a == 0) (a == 255) refl refl p in (m.0, ap (λ z. z ∷ []) m.1)
to_boolean (a ∷ b ∷ s) p = absurd cc

pub to_bits : (s : List ℕ) → is_bit_string s ≡ true → (unused : ℕ) × (bits : List ℕ) × (s ≡ unused ∷ bits)
to_bits [] p = absurd cc
to_bits (unused ∷ bits) p = (unused, bits, refl)

to_content : (k : ℕ) → ((s : List ℕ) → IsDerObject k s → (t : Tree) × IsObject k t × (octets t ≡ s)) → (e : Element) → Stands (AreAll (IsDerObject k)) e → (c : Content) × IsContent k e c
unfolding IsContent
to_content k f e (table.boolean p q) = let b = to_boolean e.content q in (leaf (tree.boolean b.0), (p, b.1))
to_content k f e (table.bit_string p q) = let b = to_bits e.content q in (leaf (tree.bit_string b.0 b.1), (p, b.2, q))
to_content k f e (table.null p q) = (leaf tree.null, (p, q))
to_content k f e (table.oid p q) = (leaf (tree.oid e.content), (p, refl, q))
to_content k f e (table.enumerated p q) = (leaf (tree.enumerated (number_from_digits 256 e.content)), (p, refl, q))
to_content k f e (table.sequence p q) = let m = to_trees k f q.0 q.1 in (tree.sequence m.0, (p, q.2 ∙ sym m.2, m.1))
to_content k f e (table.set p q) = let m = to_trees k f q.0 q.1 in (tree.set m.0, (p, q.2 ∙ sym m.2, m.1))
to_content k f e (table.plain j p q) = (leaf (tree.plain j e.content), (p, refl, q))
to_content k f e (table.raw p) = (leaf (tree.raw e), (p, refl))

pub object_to : (k : ℕ) (s : List ℕ) → IsDerObject k s → (t : Tree) × IsObject k t × (octets t ≡ s)
unfolding IsObject IsDerObject
object_to zero s p = absurd p
object_to (suc k) s p =
    let m = to_content k (object_to k) p.0 p.2 in
    let e : suc k - 1 ≡ k = omega arith in
    (node (head_of_element p.0) s m.0, (omega arith, p.0, refl, p.1, rw e m.1), refl)
