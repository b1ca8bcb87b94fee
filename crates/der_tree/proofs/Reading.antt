-- What the steps of the strict reader keep.
use Rattle.std.proofs.Common.{◌≡◌, ◌∙◌, sym, ap, subst, ℕ, ◌-◌, ◌<◌, List, [], ◌∷◌, ◌++◌, append_assoc, ◌+◌, ◌≤◌, length, arith, length-append, refl, Err}
use Rattle.std.proofs.lemmas.List.{append-nil}
use Rattle.asn1_core.specs.Elements.{Element, head_of_element}
use Rattle.asn1_core.specs.Reading.{identity_at, strict_at}
use Rattle.asn1_core.specs.Views.{head_of}
use Rattle.asn1_core.specs.declared.error.Needed.TheVariants as needed
use Rattle.asn1_core.specs.declared.outcome.Err.TheVariants as refusals
use Rattle.der_tree.specs.declared.object.BerObject.{BerObject}
use Rattle.der_tree.specs.Object.{IsCut, HasCut}
use Rattle.der_tree.specs.Outcome.{cut_at}
use Rattle.der_tree.specs.Tree.{Tree, node, Content, leaf, sequence, set, Trees, none, more, octets, all_octets, element_count, part_count, all_count}
use Rattle.der_tree.specs.Shape.{IsObject, IsContent, AreObjects, BeginsWithObject}
use Rattle.der_tree.specs.Access.{content_in}
use Rattle.der_tree.specs.View.{view, content_view, views}
use Rattle.der_tree.proofs.Cuts.{cut_once, cut_within}
use Rattle.der_tree.proofs.Objects.{object_parts, object_made, object_long}
use Rattle.der_tree.proofs.Views.{at_object}

pub object_cut : (k : ℕ) (s : List ℕ) → BeginsWithObject k s → HasCut s
object_cut k s p = let m = object_parts k p.0 p.2 in (octets p.0, p.1, m.element, m.cut, p.3)

-- if an element is cut off the front, what an object there holds
pub object_content : (k : ℕ) (i s r : List ℕ) (e : Element) → IsCut s e → i ≡ s ++ r → BeginsWithObject k i → (c : Content) × IsContent (k - 1) e c
object_content k i s r e cut split p =
    let m = object_parts k p.0 p.2 in
    let once = cut_once (octets p.0) s m.element e p.1 r m.cut cut (sym p.3 ∙ split) in
    (content_in p.0, subst (λ f. IsContent (k - 1) f (content_in p.0)) once.0 m.content)

-- the object that a cut and what it holds make
pub object_read : (k : ℕ) (o : BerObject) (e : Element) (c : Content) → 0 < k → head_of o.header ≡ head_of_element e → IsCut o.raw.now e → content_view o.content ≡ c → IsContent (k - 1) e c →
    IsObject k (view o) × (octets (view o) ≡ o.raw.now)
object_read k o e c lt head cut same p =
    let is : view o ≡ node (head_of_element e) o.raw.now c =
    at_object o ∙ ap (λ h. node h o.raw.now (content_view o.content)) head ∙ ap (node (head_of_element e) o.raw.now) same in
    (subst (IsObject k) (sym is) (object_made k e o.raw.now c lt cut p), ap octets is)

pub views_push : (os : List BerObject) (o : BerObject) → all_octets (views (os ++ o ∷ [])) ≡ all_octets (views os) ++ octets (view o)
views_push [] o = append-nil (octets (view o))
views_push (x ∷ os) o = ap (λ s. octets (view x) ++ s) (views_push os o) ∙ sym (append_assoc (octets (view x)) (all_octets (views os)) (octets (view o)))

pub objects_push : (k : ℕ) (os : List BerObject) (o : BerObject) → AreObjects k (views os) → IsObject k (view o) → AreObjects k (views (os ++ o ∷ []))
unfolding AreObjects
objects_push k [] o p q = (q, tt)
objects_push k (x ∷ os) o p q = (p.0, objects_push k os o p.1 q)

-- how many elements there are

pub counts_push : (os : List BerObject) (o : BerObject) → all_count (views (os ++ o ∷ [])) ≡ all_count (views os) + element_count (view o)
counts_push [] o = omega arith
counts_push (x ∷ os) o = omega (arith, counts_push os o)

mutual
  unfolding IsObject IsContent AreObjects

  pub count_bound : (t : Tree) (k : ℕ) → IsObject k t → element_count t ≤ length (octets t)
  count_bound (node h s c) k p = omega (arith, part_bound c (k - 1) p.1 p.4, cut_within s s [] p.1 p.3 (sym (append-nil s)))

  part_bound : (c : Content) (k : ℕ) (e : Element) → IsContent k e c → part_count c ≤ length e.content
  part_bound (leaf v) k e p = omega arith
  part_bound (sequence ts) k e p = omega (arith, all_bound ts k p.2, ap length p.1)
  part_bound (set ts) k e p = omega (arith, all_bound ts k p.2, ap length p.1)

  all_bound : (ts : Trees) (k : ℕ) → AreObjects k ts → all_count ts ≤ length (all_octets ts)
  all_bound none k p = omega arith
  all_bound (more t ts) k p = omega (arith, count_bound t k p.0, all_bound ts k p.1, length-append (octets t) (all_octets ts))

-- no object begins if there are no octets
pub nothing_begins : (k : ℕ) (i : List ℕ) → length i ≡ 0 → BeginsWithObject k i → ⊥
nothing_begins k i empty p = omega (arith, empty, ap length p.3, length-append (octets p.0) p.1, object_long k p.0 p.2)

-- nor does an element
pub nothing_cut : (i : List ℕ) → length i ≡ 0 → cut_at i ≡ Err (refusals.Incomplete (needed.Size 1))
unfolding strict_at identity_at
nothing_cut [] empty = refl
nothing_cut (x ∷ s) empty = absurd (omega arith)
