-- The octets of an object determine its tree.
use Rattle.std.proofs.Common.{◌≡◌, ◌∙◌, sym, ap, refl, subst, ℕ, ◌-◌, ◌≤◌, ◌==◌, ◌&&◌, Bool, true, false, if◌then◌else◌, Option, Some, None, List, [], ◌∷◌, ◌++◌, length, length-append, arith}
use Rattle.std.specs.Int.Digits.{number_from_digits}
use Rattle.std.proofs.lemmas.Bool.{eqb-true, eq-eqb}
use Rattle.asn1_core.specs.Elements.{Element, head_of_element}
use Rattle.der_tree.specs.Table.{Kind, integer, octet_string, object_descriptor, utf8_string, relative_oid, numeric_string, printable_string, t61_string, videotex_string, ia5_string, utc_time, generalized_time, graphic_string, visible_string, general_string, universal_string, bmp_string, tag_of, is_listed}
use Rattle.der_tree.specs.Tree.{Leaf, end_of_content, boolean, bit_string, null, oid, enumerated, plain, raw, Tree, node, Content, leaf, sequence, set, Trees, none, more, octets, all_octets}
use Rattle.der_tree.specs.Shape.{IsObject, IsContent, AreObjects, Holds}
use Rattle.der_tree.proofs.Cuts.{cut_once}
use Rattle.der_tree.proofs.Objects.{kind_at, kind_listed, no_leaf, object_once, object_long}

-- what an element without parts holds, by its tag number

unfoldable pub is_true : List ℕ → Bool
is_true [] = false
is_true (a ∷ s) = a == 255

unfoldable pub bits_in : List ℕ → Leaf
bits_in [] = null
bits_in (a ∷ s) = bit_string a s

unfoldable pub plain_in : Option Kind → List ℕ → Leaf
plain_in None s = null
plain_in (Some k) s = plain k s

abbrev pub listed_leaf : ℕ → Element → Leaf
listed_leaf n e =
    if n == 1 then boolean (is_true e.content) else
    if n == 3 then bits_in e.content else
    if n == 5 then null else
    if n == 6 then oid e.content else
    if n == 10 then enumerated (number_from_digits 256 e.content) else
    plain_in (kind_at n) e.content

abbrev leaf_at : Element → Leaf
leaf_at e = if (e.class == 0) && is_listed e.tag then listed_leaf e.tag e else raw e

pub at_listed : (e : Element) (n : ℕ) → e.class ≡ 0 → e.tag ≡ n → is_listed n ≡ true → leaf_at e ≡ listed_leaf n e
at_listed e n class tag l =
    let first : (e.class == 0) ≡ true = eq-eqb e.class 0 class in
    let second : is_listed e.tag ≡ true = ap is_listed tag ∙ l in
    ap (λ b. if b && is_listed e.tag then listed_leaf e.tag e else raw e) first ∙ ap (λ b. if b then listed_leaf e.tag e else raw e) second ∙ ap (λ m. listed_leaf m e) tag

at_raw : (e : Element) (b : Bool) → (e.class == 0) ≡ b → (e.class ≡ 0 → is_listed e.tag ≡ false) → leaf_at e ≡ raw e
at_raw e true is left = ap (λ c. if c && is_listed e.tag then listed_leaf e.tag e else raw e) is ∙ ap (λ c. if c then listed_leaf e.tag e else raw e) (left (eqb-true e.class 0 is))
at_raw e false is left = ap (λ c. if c && is_listed e.tag then listed_leaf e.tag e else raw e) is

pub plain_leaf : (k : Kind) (e : Element) → listed_leaf (tag_of k) e ≡ plain k e.content
unfolding plain_in
plain_leaf integer e = refl
plain_leaf octet_string e = refl
plain_leaf object_descriptor e = refl
plain_leaf utf8_string e = refl
plain_leaf relative_oid e = refl
plain_leaf numeric_string e = refl
plain_leaf printable_string e = refl
plain_leaf t61_string e = refl
plain_leaf videotex_string e = refl
plain_leaf ia5_string e = refl
plain_leaf utc_time e = refl
plain_leaf generalized_time e = refl
plain_leaf graphic_string e = refl
plain_leaf visible_string e = refl
plain_leaf general_string e = refl
plain_leaf universal_string e = refl
plain_leaf bmp_string e = refl

pub held_is : (e : Element) (v : Leaf) → Holds e v → leaf_at e ≡ v
unfolding is_true bits_in
held_is e end_of_content p = absurd p
held_is e (boolean true) p = at_listed e 1 p.0.class p.0.tag refl ∙ ap (λ s. boolean (is_true s)) p.1
held_is e (boolean false) p = at_listed e 1 p.0.class p.0.tag refl ∙ ap (λ s. boolean (is_true s)) p.1
held_is e (bit_string unused s) p = at_listed e 3 p.0.class p.0.tag refl ∙ ap bits_in p.1
held_is e null p = at_listed e 5 p.0.class p.0.tag refl
held_is e (oid s) p = at_listed e 6 p.0.class p.0.tag refl ∙ ap oid (sym p.1)
held_is e (enumerated n) p = at_listed e 10 p.0.class p.0.tag refl ∙ ap enumerated (sym p.1)
held_is e (plain k s) p = at_listed e (tag_of k) p.0.class p.0.tag (kind_listed k) ∙ plain_leaf k e ∙ ap (plain k) (sym p.1)
held_is e (raw f) p = at_raw e (e.class == 0) refl p.0 ∙ ap raw (sym p.1)

mutual
  unfolding IsObject IsContent AreObjects

  pub same_tree : (t u : Tree) (k j : ℕ) → IsObject k t → IsObject j u → octets t ≡ octets u → t ≡ u
  same_tree (node h s c) (node g r d) k j p q e =
      let once = cut_once s r p.1 q.1 [] [] p.3 q.3 (ap (λ z. z ++ []) e) in
      let heads : h ≡ g = p.2 ∙ ap head_of_element once.0 ∙ sym q.2 in
      let contents : c ≡ d = same_content c d (k - 1) (j - 1) p.1 p.4 (subst (λ f. IsContent (j - 1) f d) (sym once.0) q.4) in
      ap (λ x. node x s c) heads ∙ ap (λ x. node g x c) e ∙ ap (node g r) contents

  pub same_content : (c d : Content) (k j : ℕ) (e : Element) → IsContent k e c → IsContent j e d → c ≡ d
  same_content (leaf v) (leaf w) k j e p q = ap leaf (sym (held_is e v p) ∙ held_is e w q)
  same_content (leaf v) (sequence us) k j e p q = absurd (no_leaf 16 e v refl q.0 p)
  same_content (leaf v) (set us) k j e p q = absurd (no_leaf 17 e v refl q.0 p)
  same_content (sequence ts) (leaf w) k j e p q = absurd (no_leaf 16 e w refl p.0 q)
  same_content (sequence ts) (sequence us) k j e p q = ap sequence (same_trees ts us k j p.2 q.2 (sym p.1 ∙ q.1))
  same_content (sequence ts) (set us) k j e p q = absurd (omega (arith, p.0.tag, q.0.tag))
  same_content (set ts) (leaf w) k j e p q = absurd (no_leaf 17 e w refl p.0 q)
  same_content (set ts) (sequence us) k j e p q = absurd (omega (arith, p.0.tag, q.0.tag))
  same_content (set ts) (set us) k j e p q = ap set (same_trees ts us k j p.2 q.2 (sym p.1 ∙ q.1))

  same_trees : (ts us : Trees) (k j : ℕ) → AreObjects k ts → AreObjects j us → all_octets ts ≡ all_octets us → ts ≡ us
  same_trees none none k j p q e = refl
  same_trees none (more u us) k j p q e = absurd (omega (arith, ap length e, length-append (octets u) (all_octets us), object_long j u q.0))
  same_trees (more t ts) none k j p q e = absurd (omega (arith, ap length e, length-append (octets t) (all_octets ts), object_long k t p.0))
  same_trees (more t ts) (more u us) k j p q e =
      let once = object_once k j t u (all_octets ts) (all_octets us) p.0 q.0 e in
      ap (λ x. more x ts) (same_tree t u k j p.0 q.0 once.0) ∙ ap (more u) (same_trees ts us k j p.1 q.1 once.1)

pub one_tree_lem : (k j : ℕ) (t u : Tree) (x y : List ℕ) → IsObject k t → IsObject j u → octets t ++ x ≡ octets u ++ y → (t ≡ u) × (x ≡ y)
one_tree_lem k j t u x y p q e =
    let once = object_once k j t u x y p q e in
    (same_tree t u k j p q once.0, once.1)

-- an object of at most k levels is one of at most any more

mutual
  unfolding IsObject IsContent AreObjects

  pub higher_tree : (t : Tree) (k j : ℕ) → k ≤ j → IsObject k t → IsObject j t
  higher_tree (node h s c) k j le p = (omega (arith, p.0), p.1, p.2, p.3, higher_content c (k - 1) (j - 1) p.1 (omega arith) p.4)

  higher_content : (c : Content) (k j : ℕ) (e : Element) → k ≤ j → IsContent k e c → IsContent j e c
  higher_content (leaf v) k j e le p = p
  higher_content (sequence ts) k j e le p = (p.0, p.1, higher_trees ts k j le p.2)
  higher_content (set ts) k j e le p = (p.0, p.1, higher_trees ts k j le p.2)

  higher_trees : (ts : Trees) (k j : ℕ) → k ≤ j → AreObjects k ts → AreObjects j ts
  higher_trees none k j le p = tt
  higher_trees (more t ts) k j le p = (higher_tree t k j le p.0, higher_trees ts k j le p.1)
