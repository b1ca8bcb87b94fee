-- Laws of objects and of the fronts of lists that are objects.
use Rattle.std.proofs.Common.{Option, Some, None, ◌==◌, if◌then◌else◌, ◌≡◌, ◌∙◌, sym, ap, refl, ℕ, ◌-◌, ◌<◌, List, ◌++◌, true, false, length, arith}
use Rattle.asn1_core.specs.Elements.{Element, head_of_element}
use Rattle.der_tree.specs.Table.{Kind, integer, octet_string, object_descriptor, utf8_string, relative_oid, numeric_string, printable_string, t61_string, videotex_string, ia5_string, utc_time, generalized_time, graphic_string, visible_string, general_string, universal_string, bmp_string, tag_of, IsConstructed, IsRaw, is_listed}
use Rattle.der_tree.specs.Object.{IsCut}
use Rattle.der_tree.specs.Tree.{Leaf, end_of_content, boolean, bit_string, null, oid, enumerated, plain, raw, Tree, node, Content, leaf, sequence, set, Trees, none, more, octets, all_octets}
use Rattle.der_tree.specs.Shape.{IsObject, IsContent, AreObjects, Holds, HoldsLeaf}
use Rattle.der_tree.specs.Access.{content_in}
use Rattle.der_tree.proofs.Cuts.{cut_once, cut_long}

-- an object's element, and what it holds
pub record Parts (k : ℕ) (t : Tree) : Type 0 where
  pub element : Element
  pub level : 0 < k
  pub cut : IsCut (octets t) element
  pub content : IsContent (k - 1) element (content_in t)

pub object_parts : (k : ℕ) (t : Tree) → IsObject k t → Parts k t
unfolding IsObject
object_parts k (node h s c) p = record { element = p.1; level = p.0; cut = p.3; content = p.4 }

pub object_made : (k : ℕ) (e : Element) (s : List ℕ) (c : Content) → 0 < k → IsCut s e → IsContent (k - 1) e c → IsObject k (node (head_of_element e) s c)
unfolding IsObject
object_made k e s c lt p q = (lt, e, refl, p, q)

pub object_long : (k : ℕ) (t : Tree) → IsObject k t → 0 < length (octets t)
object_long k t p = let m = object_parts k t p in cut_long (octets t) m.element m.cut

-- one object begins a list
pub object_once : (k j : ℕ) (t u : Tree) (x y : List ℕ) → IsObject k t → IsObject j u → octets t ++ x ≡ octets u ++ y → (octets t ≡ octets u) × (x ≡ y)
object_once k j t u x y p q e =
    let m = object_parts k t p in
    let n = object_parts j u q in
    let same = cut_once (octets t) (octets u) m.element n.element x y m.cut n.cut e in
    (same.1, same.2)

-- one step through objects to the end
pub objects_step : (k : ℕ) (us : Trees) (rest after : List ℕ) (t : Tree) → 0 < length rest → IsObject k t → rest ≡ octets t ++ after →
    AreObjects k us → rest ≡ all_octets us → (ws : Trees) × AreObjects k ws × (after ≡ all_octets ws)
unfolding AreObjects
objects_step k none rest after t lt p e q f = absurd (omega (arith, ap length f))
objects_step k (more u us) rest after t lt p e q f = (us, q.1, (object_once k k t u after (all_octets us) p q.0 (sym e ∙ f)).1)

-- objects to the end begin with one
pub objects_first : (k : ℕ) (us : Trees) (rest : List ℕ) → 0 < length rest → AreObjects k us → rest ≡ all_octets us →
    (t : Tree) × (r : List ℕ) × IsObject k t × (rest ≡ octets t ++ r)
unfolding AreObjects
objects_first k none rest lt q f = absurd (omega (arith, ap length f))
objects_first k (more u us) rest lt q f = (u, all_octets us, q.0, f)

-- the kind of a tag
abbrev pub kind_at : ℕ → Option Kind
kind_at n =
    if n == 2 then Some integer else
    if n == 4 then Some octet_string else
    if n == 7 then Some object_descriptor else
    if n == 12 then Some utf8_string else
    if n == 13 then Some relative_oid else
    if n == 18 then Some numeric_string else
    if n == 19 then Some printable_string else
    if n == 20 then Some t61_string else
    if n == 21 then Some videotex_string else
    if n == 22 then Some ia5_string else
    if n == 23 then Some utc_time else
    if n == 24 then Some generalized_time else
    if n == 25 then Some graphic_string else
    if n == 26 then Some visible_string else
    if n == 27 then Some general_string else
    if n == 28 then Some universal_string else
    if n == 30 then Some bmp_string else
    None

pub same_kind : (k : Kind) → kind_at (tag_of k) ≡ Some k
same_kind integer = refl
same_kind octet_string = refl
same_kind object_descriptor = refl
same_kind utf8_string = refl
same_kind relative_oid = refl
same_kind numeric_string = refl
same_kind printable_string = refl
same_kind t61_string = refl
same_kind videotex_string = refl
same_kind ia5_string = refl
same_kind utc_time = refl
same_kind generalized_time = refl
same_kind graphic_string = refl
same_kind visible_string = refl
same_kind general_string = refl
same_kind universal_string = refl
same_kind bmp_string = refl

pub one_kind : (i j : Kind) → tag_of i ≡ tag_of j → i ≡ j
one_kind i j e = let both : Some i ≡ Some j = sym (same_kind i) ∙ ap kind_at e ∙ same_kind j in cc

-- each kind's tag is listed
pub kind_listed : (k : Kind) → is_listed (tag_of k) ≡ true
kind_listed integer = refl
kind_listed octet_string = refl
kind_listed object_descriptor = refl
kind_listed utf8_string = refl
kind_listed relative_oid = refl
kind_listed numeric_string = refl
kind_listed printable_string = refl
kind_listed t61_string = refl
kind_listed videotex_string = refl
kind_listed ia5_string = refl
kind_listed utc_time = refl
kind_listed generalized_time = refl
kind_listed graphic_string = refl
kind_listed visible_string = refl
kind_listed general_string = refl
kind_listed universal_string = refl
kind_listed bmp_string = refl

pub not_raw : (n : ℕ) (e : Element) → is_listed n ≡ true → e.class ≡ 0 → e.tag ≡ n → IsRaw e → ⊥
not_raw n e l class tag left =
    let x : is_listed e.tag ≡ false = left class in
    let y : is_listed e.tag ≡ true = ap is_listed tag ∙ l in
    cc

-- what is under a constructed header is no leaf, unless it is raw
pub no_leaf : (n : ℕ) (e : Element) (v : Leaf) → is_listed n ≡ true → IsConstructed e n → Holds e v → ⊥
no_leaf n e end_of_content l p q = q
no_leaf n e (boolean b) l p q = let x = q.0.constructed in let y = p.constructed in cc
no_leaf n e (bit_string unused s) l p q = let x = q.0.constructed in let y = p.constructed in cc
no_leaf n e null l p q = let x = q.0.constructed in let y = p.constructed in cc
no_leaf n e (oid s) l p q = let x = q.0.constructed in let y = p.constructed in cc
no_leaf n e (enumerated m) l p q = let x = q.0.constructed in let y = p.constructed in cc
no_leaf n e (plain k s) l p q = let x = q.0.constructed in let y = p.constructed in cc
no_leaf n e (raw f) l p q = not_raw n e l p.class p.tag q.0

pub no_sequence : (k : ℕ) (e : Element) → IsConstructed e 16 → ((ts : Trees) → AreObjects k ts → e.content ≡ all_octets ts → ⊥) → (c : Content) → IsContent k e c → ⊥
unfolding IsContent
no_sequence k e p refused (leaf v) q = no_leaf 16 e v refl p q
no_sequence k e p refused (sequence ts) q = refused ts q.2 q.1
no_sequence k e p refused (set ts) q = absurd (omega (arith, p.tag, q.0.tag))

pub no_set : (k : ℕ) (e : Element) → IsConstructed e 17 → ((ts : Trees) → AreObjects k ts → e.content ≡ all_octets ts → ⊥) → (c : Content) → IsContent k e c → ⊥
unfolding IsContent
no_set k e p refused (leaf v) q = no_leaf 17 e v refl p q
no_set k e p refused (sequence ts) q = absurd (omega (arith, p.tag, q.0.tag))
no_set k e p refused (set ts) q = refused ts q.2 q.1

pub leaf_content : (k : ℕ) (e : Element) (c : Content) → HoldsLeaf e c → IsContent k e c
unfolding IsContent
leaf_content k e (leaf v) p = p
leaf_content k e (sequence ts) p = absurd p
leaf_content k e (set ts) p = absurd p

pub content_leaf : (k : ℕ) (e : Element) → (IsConstructed e 16 → ⊥) → (IsConstructed e 17 → ⊥) → (c : Content) → IsContent k e c → HoldsLeaf e c
unfolding IsContent
content_leaf k e a b (leaf v) p = p
content_leaf k e a b (sequence ts) p = a p.0
content_leaf k e a b (set ts) p = b p.0
