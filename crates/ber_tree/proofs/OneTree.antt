-- The octets of a BER object determine its tree.
use Rattle.std.proofs.Common.{◌≡◌, ◌∙◌, sym, ap, refl, subst, inl, inr, ℕ, ◌+◌, ◌-◌, ◌==◌, ◌&&◌, not, Bool, true, false, if◌then◌else◌, Option, Some, None, List, [], ◌∷◌, ◌++◌, length, length-append, arith}
use Rattle.std.specs.Int.Digits.{number_from_digits}
use Rattle.std.proofs.lemmas.Bool.{eqb-true, eq-eqb}
use Rattle.std.proofs.lemmas.List.{append_cancel_left}
use Rattle.asn1_core.specs.Elements.{Element}
use Rattle.asn1_any.specs.BerElements.{BerElement, element_of_ber}
use Rattle.der_tree.specs.Table.{Kind, integer, octet_string, object_descriptor, utf8_string, relative_oid, numeric_string, printable_string, t61_string, videotex_string, ia5_string, utc_time, generalized_time, graphic_string, visible_string, general_string, universal_string, bmp_string, tag_of, is_listed}
use Rattle.der_tree.specs.Tree.{Leaf, end_of_content, boolean, bit_string, null, oid, enumerated, plain, raw, Tree, node, Content, leaf, sequence, set, Trees, none, more, octets, all_octets}
use Rattle.der_tree.proofs.Objects.{kind_at, kind_listed}
use Rattle.ber_tree.specs.Table.{HoldsBer}
use Rattle.ber_tree.specs.Object.{head_in, IsBerObject, IsBerContent, AreBerObjects, IsBerTree}
use Rattle.ber_tree.proofs.Leaves.{no_ber_leaf}
use Rattle.ber_tree.proofs.Objects.{Parts, object_parts, object_once, object_long, object_no_end}
use Rattle.ber_tree.proofs.Higher.{higher_object}

-- what an element without parts holds, by its tag number

is_true : List ℕ → Bool
is_true [] = false
is_true (a ∷ s) = not (a == 0)

bits_in : List ℕ → Leaf
bits_in [] = null
bits_in (a ∷ s) = bit_string a s

plain_in : Option Kind → List ℕ → Leaf
plain_in None s = null
plain_in (Some k) s = plain k s

abbrev listed_leaf : ℕ → Element → Leaf
listed_leaf n e =
    if n == 1 then boolean (is_true e.content) else
    if n == 3 then bits_in e.content else
    if n == 5 then null else
    if n == 6 then oid e.content else
    if n == 10 then enumerated (number_from_digits 256 e.content) else
    plain_in (kind_at n) e.content

abbrev leaf_at : Element → Leaf
leaf_at e = if (e.class == 0) && is_listed e.tag then listed_leaf e.tag e else raw e

at_listed : (e : Element) (n : ℕ) → e.class ≡ 0 → e.tag ≡ n → is_listed n ≡ true → leaf_at e ≡ listed_leaf n e
at_listed e n class tag l =
    let first : (e.class == 0) ≡ true = eq-eqb e.class 0 class in
    let second : is_listed e.tag ≡ true = ap is_listed tag ∙ l in
    ap (λ b. if b && is_listed e.tag then listed_leaf e.tag e else raw e) first ∙ ap (λ b. if b then listed_leaf e.tag e else raw e) second ∙ ap (λ m. listed_leaf m e) tag

at_raw : (e : Element) (b : Bool) → (e.class == 0) ≡ b → (e.class ≡ 0 → is_listed e.tag ≡ false) → leaf_at e ≡ raw e
at_raw e true is left = ap (λ c. if c && is_listed e.tag then listed_leaf e.tag e else raw e) is ∙ ap (λ c. if c then listed_leaf e.tag e else raw e) (left (eqb-true e.class 0 is))
at_raw e false is left = ap (λ c. if c && is_listed e.tag then listed_leaf e.tag e else raw e) is

plain_leaf : (k : Kind) (e : Element) → listed_leaf (tag_of k) e ≡ plain k e.content
unfolding plain_in
plain_leaf integer e = refl
plain_leaf octet_string e = refl
plain_leaf object_descriptor e = refl
plain_leaf utf8_string e = refl
plain_leaf relative_oid e = refl
plain_leaf numeric_string e = refl
plain_leaf printable_string e = refl
plain_leaf t61_string e = refl
plain_leaf videotex_string e = refl
plain_leaf ia5_string e = refl
plain_leaf utc_time e = refl
plain_leaf generalized_time e = refl
plain_leaf graphic_string e = refl
plain_leaf visible_string e = refl
plain_leaf general_string e = refl
plain_leaf universal_string e = refl
plain_leaf bmp_string e = refl

held_is : (e : Element) (v : Leaf) → HoldsBer e v → leaf_at e ≡ v
unfolding is_true bits_in
held_is e end_of_content (inl p) = absurd p
held_is e (boolean true) (inl p) = at_listed e 1 p.0.class p.0.tag refl ∙ ap (λ s. boolean (is_true s)) p.1
held_is e (boolean false) (inl p) = at_listed e 1 p.0.class p.0.tag refl ∙ ap (λ s. boolean (is_true s)) p.1
held_is e (bit_string unused s) (inl p) = at_listed e 3 p.0.class p.0.tag refl ∙ ap bits_in p.1
held_is e null (inl p) = at_listed e 5 p.0.class p.0.tag refl
held_is e (oid s) (inl p) = at_listed e 6 p.0.class p.0.tag refl ∙ ap oid (sym p.1)
held_is e (enumerated n) (inl p) = at_listed e 10 p.0.class p.0.tag refl ∙ ap enumerated (sym p.1)
held_is e (plain k s) (inl p) = at_listed e (tag_of k) p.0.class p.0.tag (kind_listed k) ∙ plain_leaf k e ∙ ap (plain k) (sym p.1)
held_is e (raw f) (inl p) = at_raw e (e.class == 0) refl p.0 ∙ ap raw (sym p.1)
held_is e end_of_content (inr p) = absurd p
held_is e (boolean b) (inr p) = at_listed e 1 p.0.class p.0.tag refl ∙ ap (λ s. boolean (is_true s)) p.1.1 ∙ ap boolean (sym p.1.2)
held_is e (bit_string unused s) (inr p) = at_listed e 3 p.0.class p.0.tag refl ∙ ap bits_in p.1
held_is e null (inr p) = absurd p
held_is e (oid s) (inr p) = absurd p
held_is e (enumerated n) (inr p) = at_listed e 10 p.0.class p.0.tag refl ∙ ap enumerated (sym p.1)
held_is e (plain k s) (inr p) = at_listed e (tag_of k) p.0.class p.0.tag (kind_listed k) ∙ plain_leaf k e ∙ ap (plain k) (sym p.1)
held_is e (raw f) (inr p) = absurd p

mutual
  unfolding IsBerObject IsBerContent AreBerObjects

  same_tree : (t u : Tree) (k : ℕ) → IsBerObject k t → IsBerObject k u → octets t ≡ octets u → t ≡ u
  same_tree (node h s c) (node g r d) k p q e =
      let left : Parts k (node h s c) = record { element = p.1; level = p.0; cut = p.3; ended = p.4; content = p.5 } in
      let right : Parts k (node g r d) = record { element = q.1; level = q.0; cut = q.3; ended = q.4; content = q.5 } in
      let once = object_once k (node h s c) (node g r d) [] [] left right (ap (λ z. z ++ []) e) in
      let same : p.1 ≡ q.1 = once.elements in
      let heads : h ≡ g = p.2 ∙ ap (λ (z : BerElement). head_in z.head) same ∙ sym q.2 in
      let contents : c ≡ d = same_content c d (k - 1) (element_of_ber p.1) p.5 (subst (λ f. IsBerContent (k - 1) (element_of_ber f) d) (sym same) q.5) in
      ap (λ x. node x s c) heads ∙ ap (λ x. node g x c) e ∙ ap (node g r) contents

  same_content : (c d : Content) (k : ℕ) (e : Element) → IsBerContent k e c → IsBerContent k e d → c ≡ d
  same_content (leaf v) (leaf w) k e p q = ap leaf (sym (held_is e v p) ∙ held_is e w q)
  same_content (leaf v) (sequence us) k e p q = absurd (no_ber_leaf 16 e v refl q.0 p)
  same_content (leaf v) (set us) k e p q = absurd (no_ber_leaf 17 e v refl q.0 p)
  same_content (sequence ts) (leaf w) k e p q = absurd (no_ber_leaf 16 e w refl p.0 q)
  same_content (sequence ts) (sequence us) k e p q = ap sequence (same_trees ts us k p.2 q.2 (sym p.1 ∙ q.1))
  same_content (sequence ts) (set us) k e p q = absurd (omega (arith, p.0.tag, q.0.tag))
  same_content (set ts) (leaf w) k e p q = absurd (no_ber_leaf 17 e w refl p.0 q)
  same_content (set ts) (sequence us) k e p q = absurd (omega (arith, p.0.tag, q.0.tag))
  same_content (set ts) (set us) k e p q = ap set (same_trees ts us k p.2 q.2 (sym p.1 ∙ q.1))

  same_trees : (ts us : Trees) (k : ℕ) → AreBerObjects k ts → AreBerObjects k us → all_octets ts ≡ all_octets us → ts ≡ us
  same_trees none none k p q e = refl
  same_trees none (more u us) k p q e = absurd (omega (arith, ap length e, length-append (octets u) (all_octets us), object_long k u q.0))
  same_trees (more t ts) none k p q e = absurd (omega (arith, ap length e, length-append (octets t) (all_octets ts), object_long k t p.0))
  same_trees (more t ts) (more u us) k p q e =
      let once = object_once k t u (all_octets ts) (all_octets us) (object_parts k t p.0) (object_parts k u q.0) e in
      ap (λ x. more x ts) (same_tree t u k p.0 q.0 once.fronts) ∙ ap (more u) (same_trees ts us k p.1 q.1 once.rests)

pub one_tree_lem : (k j : ℕ) (t u : Tree) (x y : List ℕ) → IsBerTree k t → IsBerTree j u → octets t ++ x ≡ octets u ++ y → (t ≡ u) × (x ≡ y)
one_tree_lem k j t u x y (inl p) (inl q) e =
    let n : ℕ = k + j in
    let left = higher_object t k n (omega arith) p in
    let right = higher_object u j n (omega arith) q in
    let once = object_once n t u x y (object_parts n t left) (object_parts n u right) e in
    (same_tree t u n left right once.fronts, once.rests)
one_tree_lem k j t u x y (inl p) (inr q) e = absurd (object_no_end k t x y p (e ∙ ap (λ z. octets z ++ y) q.1))
one_tree_lem k j t u x y (inr p) (inl q) e = absurd (object_no_end j u y x q (sym e ∙ ap (λ z. octets z ++ x) p.1))
one_tree_lem k j t u x y (inr p) (inr q) e =
    let same : t ≡ u = p.1 ∙ sym q.1 in
    (same, append_cancel_left (octets t) x y (e ∙ ap (λ z. octets z ++ y) (sym same)))
