-- What an object's octets say of its tree, and its tree of its octets. `found`: what is seen in the tree is written so;
-- `only`: what is written so is seen in the tree.
use Rattle.std.proofs.Common.{◌≡◌, ◌∙◌, sym, ap, refl, ℕ, ◌-◌, ◌==◌, List, [], ◌∷◌, ◌++◌, Bool, true, false, length, drop, arith, length-append, Some, None, subst, if◌then◌else◌, IsTrue}
use Rattle.std.proofs.lemmas.Bool.{eqb-true, eq-eqb}
use Rattle.std.proofs.Math.Seq.{drop-append_seam}
use Rattle.asn1_core.specs.Strict.{Head, strict_header}
use Rattle.asn1_core.specs.Elements.{Element, IsElement, head_of_element, element_octets}
use Rattle.asn1_oid.specs.Identifier.{IsOidContent}
use Rattle.der_tree.specs.Table.{Kind, tag_of, Allows, IsPrimitive, IsConstructed, is_bit_string}
use Rattle.der_tree.specs.Object.{IsCut}
use Rattle.der_tree.specs.Tree.{end_of_content, boolean, bit_string, null, oid, enumerated, plain, raw, Tree, node, Content, leaf, sequence, set, Trees, none, more, octets, all_octets}
use Rattle.der_tree.specs.Shape.{IsObject, IsContent, AreObjects}
use Rattle.der_tree.specs.Access.{content_in, sequence_of, set_of, oid_of, boolean_of, bit_string_of, plain_of, sequence_at, set_at, oid_at, boolean_at, bit_string_at, plain_at, first_at, end_at, element_at, universal}
use Rattle.asn1_core.proofs.StrictLaws.{one_element_lem}
use Rattle.der_tree.proofs.Cuts.{no_element, element_of}
use Rattle.der_tree.proofs.Objects.{object_parts, object_long, no_leaf, not_raw, kind_listed, same_kind, one_kind, kind_at}

-- the object at these octets is this element, and holds this
pub object_at : (k : ℕ) (t : Tree) (e : Element) → IsObject k t → IsElement e → octets t ≡ element_octets e → IsCut (octets t) e × IsContent (k - 1) e (content_in t)
object_at k t e p q same =
    let m = object_parts k t p in
    let once = one_element_lem m.element e [] [] m.cut.in_range q (ap (λ z. z ++ []) (sym m.cut.octets ∙ same)) in
    (subst (IsCut (octets t)) once.0 m.cut, subst (λ f. IsContent (k - 1) f (content_in t)) once.0 m.content)

primitive_is : (e : Element) (n : ℕ) (s : List ℕ) → IsPrimitive e n → e.content ≡ s → e ≡ universal false n s
primitive_is e n s p q =
    ap (λ z. element_of (record { class = z; constructed = e.constructed; tag = e.tag; size = 0 }) e.content) p.class
    ∙ ap (λ z. element_of (record { class = 0; constructed = z; tag = e.tag; size = 0 }) e.content) p.constructed
    ∙ ap (λ z. universal false z e.content) p.tag ∙ ap (universal false n) q

constructed_is : (e : Element) (n : ℕ) (s : List ℕ) → IsConstructed e n → e.content ≡ s → e ≡ universal true n s
constructed_is e n s p q =
    ap (λ z. element_of (record { class = z; constructed = e.constructed; tag = e.tag; size = 0 }) e.content) p.class
    ∙ ap (λ z. element_of (record { class = 0; constructed = z; tag = e.tag; size = 0 }) e.content) p.constructed
    ∙ ap (λ z. universal true z e.content) p.tag ∙ ap (universal true n) q

is_primitive : (n : ℕ) (s : List ℕ) → IsPrimitive (universal false n s) n
is_primitive n s = record { class = refl; constructed = refl; tag = refl }

is_constructed : (n : ℕ) (s : List ℕ) → IsConstructed (universal true n s) n
is_constructed n s = record { class = refl; constructed = refl; tag = refl }

-- sequences and sets

content_sequence : (k : ℕ) (s : List ℕ) (c : Content) → IsContent k (universal true 16 s) c →
    (ts : Trees) × (sequence_of c ≡ Some ts) × (all_octets ts ≡ s) × AreObjects k ts
unfolding IsContent
content_sequence k s (leaf v) q = absurd (no_leaf 16 (universal true 16 s) v refl (is_constructed 16 s) q)
content_sequence k s (sequence ts) q = (ts, refl, sym q.1, q.2)
content_sequence k s (set ts) q = absurd (omega (arith, q.0.tag))

pub sequence_only : (k : ℕ) (t : Tree) (s : List ℕ) → IsObject k t → IsElement (universal true 16 s) → octets t ≡ element_octets (universal true 16 s) →
    (ts : Trees) × (sequence_at t ≡ Some ts) × (all_octets ts ≡ s) × AreObjects (k - 1) ts
sequence_only k t s p q e = content_sequence (k - 1) s (content_in t) (object_at k t (universal true 16 s) p q e).1

pub sequence_found : (k : ℕ) (t : Tree) (ts : Trees) → IsObject k t → sequence_at t ≡ Some ts →
    IsCut (octets t) (universal true 16 (all_octets ts)) × AreObjects (k - 1) ts
unfolding IsObject IsContent
sequence_found k (node h u (leaf v)) ts p e = cc
sequence_found k (node h u (set us)) ts p e = cc
sequence_found k (node h u (sequence us)) ts p e =
    let same : us ≡ ts = cc in
    let is = constructed_is p.1 16 (all_octets ts) p.4.0 (p.4.1 ∙ ap all_octets same) in
    (subst (IsCut u) is p.3, subst (AreObjects (k - 1)) same p.4.2)

content_set : (k : ℕ) (s : List ℕ) (c : Content) → IsContent k (universal true 17 s) c →
    (ts : Trees) × (set_of c ≡ Some ts) × (all_octets ts ≡ s) × AreObjects k ts
unfolding IsContent
content_set k s (leaf v) q = absurd (no_leaf 17 (universal true 17 s) v refl (is_constructed 17 s) q)
content_set k s (sequence ts) q = absurd (omega (arith, q.0.tag))
content_set k s (set ts) q = (ts, refl, sym q.1, q.2)

pub set_only : (k : ℕ) (t : Tree) (s : List ℕ) → IsObject k t → IsElement (universal true 17 s) → octets t ≡ element_octets (universal true 17 s) →
    (ts : Trees) × (set_at t ≡ Some ts) × (all_octets ts ≡ s) × AreObjects (k - 1) ts
set_only k t s p q e = content_set (k - 1) s (content_in t) (object_at k t (universal true 17 s) p q e).1

pub set_found : (k : ℕ) (t : Tree) (ts : Trees) → IsObject k t → set_at t ≡ Some ts →
    IsCut (octets t) (universal true 17 (all_octets ts)) × AreObjects (k - 1) ts
unfolding IsObject IsContent
set_found k (node h u (leaf v)) ts p e = cc
set_found k (node h u (sequence us)) ts p e = cc
set_found k (node h u (set us)) ts p e =
    let same : us ≡ ts = cc in
    let is = constructed_is p.1 17 (all_octets ts) p.4.0 (p.4.1 ∙ ap all_octets same) in
    (subst (IsCut u) is p.3, subst (AreObjects (k - 1)) same p.4.2)

-- identifiers

other_kind : (n : ℕ) (k : Kind) → kind_at n ≡ None → n ≡ tag_of k → ⊥
other_kind n k never e = let some : kind_at n ≡ Some k = ap kind_at e ∙ same_kind k in cc

content_oid : (k : ℕ) (s : List ℕ) (c : Content) → IsContent k (universal false 6 s) c → (oid_of c ≡ Some s) × IsOidContent s
unfolding IsContent
content_oid k s (leaf end_of_content) q = absurd q
content_oid k s (leaf (boolean b)) q = absurd (omega (arith, q.0.tag))
content_oid k s (leaf (bit_string unused bits)) q = absurd (omega (arith, q.0.tag))
content_oid k s (leaf null) q = absurd (omega (arith, q.0.tag))
content_oid k s (leaf (oid v)) q = (ap (λ z. Some z) q.1, q.2)
content_oid k s (leaf (enumerated n)) q = absurd (omega (arith, q.0.tag))
content_oid k s (leaf (plain j v)) q = absurd (other_kind 6 j refl q.0.tag)
content_oid k s (leaf (raw f)) q = absurd (not_raw 6 (universal false 6 s) refl refl refl q.0)
content_oid k s (sequence ts) q = absurd (omega (arith, q.0.tag))
content_oid k s (set ts) q = absurd (omega (arith, q.0.tag))

pub oid_only : (k : ℕ) (t : Tree) (s : List ℕ) → IsObject k t → IsElement (universal false 6 s) → octets t ≡ element_octets (universal false 6 s) →
    (oid_at t ≡ Some s) × IsOidContent s
oid_only k t s p q e = content_oid (k - 1) s (content_in t) (object_at k t (universal false 6 s) p q e).1

pub oid_found : (k : ℕ) (t : Tree) (s : List ℕ) → IsObject k t → oid_at t ≡ Some s → IsCut (octets t) (universal false 6 s) × IsOidContent s
unfolding IsObject IsContent
oid_found k (node h u (leaf (oid v))) s p e =
    let same : v ≡ s = cc in
    let word : p.1.content ≡ s = sym p.4.1 ∙ same in
    (subst (IsCut u) (primitive_is p.1 6 s p.4.0 word) p.3, subst IsOidContent word p.4.2)
oid_found k (node h u (leaf end_of_content)) s p e = cc
oid_found k (node h u (leaf (boolean b))) s p e = cc
oid_found k (node h u (leaf (bit_string unused bits))) s p e = cc
oid_found k (node h u (leaf null)) s p e = cc
oid_found k (node h u (leaf (enumerated n))) s p e = cc
oid_found k (node h u (leaf (plain j v))) s p e = cc
oid_found k (node h u (leaf (raw f))) s p e = cc
oid_found k (node h u (sequence ts)) s p e = cc
oid_found k (node h u (set ts)) s p e = cc

-- octets under a kind's tag

content_plain : (k : ℕ) (j : Kind) (s : List ℕ) (c : Content) → IsContent k (universal false (tag_of j) s) c → (plain_of j c ≡ Some s) × Allows j s
unfolding IsContent
content_plain k j s (leaf end_of_content) q = absurd q
content_plain k j s (leaf (boolean b)) q = absurd (other_kind 1 j refl (sym q.0.tag))
content_plain k j s (leaf (bit_string unused bits)) q = absurd (other_kind 3 j refl (sym q.0.tag))
content_plain k j s (leaf null) q = absurd (other_kind 5 j refl (sym q.0.tag))
content_plain k j s (leaf (oid v)) q = absurd (other_kind 6 j refl (sym q.0.tag))
content_plain k j s (leaf (enumerated n)) q = absurd (other_kind 10 j refl (sym q.0.tag))
content_plain k j s (leaf (plain i v)) q =
    let test : (tag_of i == tag_of j) ≡ true = eq-eqb (tag_of i) (tag_of j) (sym q.0.tag) in
    let same : i ≡ j = sym (one_kind j i q.0.tag) in
    (ap (λ b. if b then Some v else None) test ∙ ap (λ z. Some z) q.1, subst (λ z. Allows z s) same q.2)
content_plain k j s (leaf (raw f)) q = absurd (not_raw (tag_of j) (universal false (tag_of j) s) (kind_listed j) refl refl q.0)
content_plain k j s (sequence ts) q = let x = q.0.constructed in cc
content_plain k j s (set ts) q = let x = q.0.constructed in cc

pub plain_only : (k : ℕ) (t : Tree) (j : Kind) (s : List ℕ) → IsObject k t → IsElement (universal false (tag_of j) s) → octets t ≡ element_octets (universal false (tag_of j) s) →
    (plain_at j t ≡ Some s) × Allows j s
plain_only k t j s p q e = content_plain (k - 1) j s (content_in t) (object_at k t (universal false (tag_of j) s) p q e).1

if_some : (b : Bool) (x y : List ℕ) → (if b then Some x else None) ≡ Some y → (b ≡ true) × (x ≡ y)
if_some true x y e = (refl, cc)
if_some false x y e = cc

pub plain_found : (k : ℕ) (t : Tree) (j : Kind) (s : List ℕ) → IsObject k t → plain_at j t ≡ Some s → IsCut (octets t) (universal false (tag_of j) s) × Allows j s
unfolding IsObject IsContent
plain_found k (node h u (leaf (plain i v))) j s p e =
    let both = if_some (tag_of i == tag_of j) v s e in
    let tags : tag_of i ≡ tag_of j = eqb-true (tag_of i) (tag_of j) both.0 in
    let same : i ≡ j = one_kind i j tags in
    let word : p.1.content ≡ s = sym p.4.1 ∙ both.1 in
    let is : p.1 ≡ universal false (tag_of j) s = primitive_is p.1 (tag_of i) s p.4.0 word ∙ ap (λ n. universal false n s) tags in
    (subst (IsCut u) is p.3, subst (λ z. Allows z s) same (subst (Allows i) word p.4.2))
plain_found k (node h u (leaf end_of_content)) j s p e = cc
plain_found k (node h u (leaf (boolean b))) j s p e = cc
plain_found k (node h u (leaf (bit_string unused bits))) j s p e = cc
plain_found k (node h u (leaf null)) j s p e = cc
plain_found k (node h u (leaf (oid v))) j s p e = cc
plain_found k (node h u (leaf (enumerated n))) j s p e = cc
plain_found k (node h u (leaf (raw f))) j s p e = cc
plain_found k (node h u (sequence ts)) j s p e = cc
plain_found k (node h u (set ts)) j s p e = cc

-- booleans

-- true is ff, false is 00
abbrev pub boolean_octets : Bool → List ℕ
boolean_octets b = (if b then 255 else 0) ∷ []

boolean_is : (b d : Bool) → boolean_octets b ≡ boolean_octets d → b ≡ d
boolean_is true true e = refl
boolean_is true false e = cc
boolean_is false true e = cc
boolean_is false false e = refl

content_boolean : (k : ℕ) (d : Bool) (c : Content) → IsContent k (universal false 1 (boolean_octets d)) c → boolean_of c ≡ Some d
unfolding IsContent
content_boolean k d (leaf end_of_content) q = absurd q
content_boolean k d (leaf (boolean b)) q = ap (λ z. Some z) (boolean_is b d (sym q.1))
content_boolean k d (leaf (bit_string unused bits)) q = absurd (omega (arith, q.0.tag))
content_boolean k d (leaf null) q = absurd (omega (arith, q.0.tag))
content_boolean k d (leaf (oid v)) q = absurd (omega (arith, q.0.tag))
content_boolean k d (leaf (enumerated n)) q = absurd (omega (arith, q.0.tag))
content_boolean k d (leaf (plain j v)) q = absurd (other_kind 1 j refl q.0.tag)
content_boolean k d (leaf (raw f)) q = absurd (not_raw 1 (universal false 1 (boolean_octets d)) refl refl refl q.0)
content_boolean k d (sequence ts) q = absurd (omega (arith, q.0.tag))
content_boolean k d (set ts) q = absurd (omega (arith, q.0.tag))

pub boolean_only : (k : ℕ) (t : Tree) (b : Bool) → IsObject k t → IsElement (universal false 1 (boolean_octets b)) →
    octets t ≡ element_octets (universal false 1 (boolean_octets b)) → boolean_at t ≡ Some b
boolean_only k t b p q e = content_boolean (k - 1) b (content_in t) (object_at k t (universal false 1 (boolean_octets b)) p q e).1

pub boolean_found : (k : ℕ) (t : Tree) (b : Bool) → IsObject k t → boolean_at t ≡ Some b → IsCut (octets t) (universal false 1 (boolean_octets b))
unfolding IsObject IsContent
boolean_found k (node h u (leaf (boolean d))) b p e =
    let same : d ≡ b = cc in
    subst (IsCut u) (primitive_is p.1 1 (boolean_octets b) p.4.0 (p.4.1 ∙ ap boolean_octets same)) p.3
boolean_found k (node h u (leaf end_of_content)) b p e = cc
boolean_found k (node h u (leaf (bit_string unused bits))) b p e = cc
boolean_found k (node h u (leaf null)) b p e = cc
boolean_found k (node h u (leaf (oid v))) b p e = cc
boolean_found k (node h u (leaf (enumerated n))) b p e = cc
boolean_found k (node h u (leaf (plain j v))) b p e = cc
boolean_found k (node h u (leaf (raw f))) b p e = cc
boolean_found k (node h u (sequence ts)) b p e = cc
boolean_found k (node h u (set ts)) b p e = cc

-- bit strings

content_bits : (k unused : ℕ) (s : List ℕ) (c : Content) → IsContent k (universal false 3 (unused ∷ s)) c → (bit_string_of c ≡ Some (unused, s)) × IsTrue (is_bit_string (unused ∷ s))
unfolding IsContent
content_bits k unused s (leaf end_of_content) q = absurd q
content_bits k unused s (leaf (boolean b)) q = absurd (omega (arith, q.0.tag))
content_bits k unused s (leaf (bit_string n bits)) q =
    let first : unused ≡ n = cc in
    let rest : s ≡ bits = cc in
    (ap (λ z. Some (z, bits)) (sym first) ∙ ap (λ z. Some (unused, z)) (sym rest), q.2)
content_bits k unused s (leaf null) q = absurd (omega (arith, q.0.tag))
content_bits k unused s (leaf (oid v)) q = absurd (omega (arith, q.0.tag))
content_bits k unused s (leaf (enumerated n)) q = absurd (omega (arith, q.0.tag))
content_bits k unused s (leaf (plain j v)) q = absurd (other_kind 3 j refl q.0.tag)
content_bits k unused s (leaf (raw f)) q = absurd (not_raw 3 (universal false 3 (unused ∷ s)) refl refl refl q.0)
content_bits k unused s (sequence ts) q = absurd (omega (arith, q.0.tag))
content_bits k unused s (set ts) q = absurd (omega (arith, q.0.tag))

pub bit_string_only : (k : ℕ) (t : Tree) (unused : ℕ) (s : List ℕ) → IsObject k t → IsElement (universal false 3 (unused ∷ s)) →
    octets t ≡ element_octets (universal false 3 (unused ∷ s)) → (bit_string_at t ≡ Some (unused, s)) × IsTrue (is_bit_string (unused ∷ s))
bit_string_only k t unused s p q e = content_bits (k - 1) unused s (content_in t) (object_at k t (universal false 3 (unused ∷ s)) p q e).1

pub bit_string_found : (k : ℕ) (t : Tree) (unused : ℕ) (s : List ℕ) → IsObject k t → bit_string_at t ≡ Some (unused, s) →
    IsCut (octets t) (universal false 3 (unused ∷ s)) × IsTrue (is_bit_string (unused ∷ s))
unfolding IsObject IsContent
bit_string_found k (node h u (leaf (bit_string n bits))) unused s p e =
    let both : ◌≡◌ {A = ℕ × List ℕ} (n, bits) (unused, s) = cc in
    let a : n ≡ unused = ap (λ (z : ℕ × List ℕ). z.0) both in
    let b : bits ≡ s = ap (λ (z : ℕ × List ℕ). z.1) both in
    let word : p.1.content ≡ unused ∷ s = p.4.1 ∙ ap (λ z. z ∷ bits) a ∙ ap (λ z. unused ∷ z) b in
    (subst (IsCut u) (primitive_is p.1 3 (unused ∷ s) p.4.0 word) p.3, subst (λ z. IsTrue (is_bit_string z)) word p.4.2)
bit_string_found k (node h u (leaf end_of_content)) unused s p e = cc
bit_string_found k (node h u (leaf (boolean b))) unused s p e = cc
bit_string_found k (node h u (leaf null)) unused s p e = cc
bit_string_found k (node h u (leaf (oid v))) unused s p e = cc
bit_string_found k (node h u (leaf (enumerated n))) unused s p e = cc
bit_string_found k (node h u (leaf (plain j v))) unused s p e = cc
bit_string_found k (node h u (leaf (raw f))) unused s p e = cc
bit_string_found k (node h u (sequence ts)) unused s p e = cc
bit_string_found k (node h u (set ts)) unused s p e = cc

-- any element

cut_content : (s : List ℕ) (e : Element) → IsCut s e → drop (length s - (head_of_element e).size) s ≡ e.content
cut_content s e p =
    let split = length-append (strict_header (head_of_element e)) e.content in
    let n : length s - length e.content ≡ length (strict_header (head_of_element e)) = omega (arith, ap length p.octets, split) in
    ap (λ z. drop z s) n ∙ ap (drop (length (strict_header (head_of_element e)))) p.octets ∙ drop-append_seam (strict_header (head_of_element e)) e.content

element_is : (k : ℕ) (t : Tree) (p : IsObject k t) → (e : Element) × IsCut (octets t) e × (element_at t ≡ e)
unfolding IsObject
element_is k (node h s c) p =
    let same : element_at (node h s c) ≡ element_at (node (head_of_element p.1) s c) = ap (λ (z : Head). element_at (node z s c)) p.2 in
    (p.1, p.3, same ∙ ap (element_of (head_of_element p.1)) (cut_content s p.1 p.3))

pub element_found : (k : ℕ) (t : Tree) → IsObject k t → IsCut (octets t) (element_at t)
element_found k t p = let m = element_is k t p in subst (IsCut (octets t)) (sym m.2) m.1

pub element_only : (k : ℕ) (t : Tree) (e : Element) → IsObject k t → IsElement e → octets t ≡ element_octets e → element_at t ≡ e
element_only k t e p q same =
    let m = element_is k t p in
    m.2 ∙ (one_element_lem m.0 e [] [] m.1.in_range q (ap (λ z. z ++ []) (sym m.1.octets ∙ same))).0

-- the first of some parts

-- objects whose octets begin with an element begin with the object of that element
pub first_only : (k : ℕ) (ts : Trees) (e : Element) (r : List ℕ) → AreObjects k ts → IsElement e → all_octets ts ≡ element_octets e ++ r →
    (t : Tree) × (us : Trees) × (first_at ts ≡ Some (t, us)) × IsObject k t × (octets t ≡ element_octets e) × AreObjects k us × (all_octets us ≡ r)
unfolding AreObjects
first_only k none e r p q same = absurd (no_element e r same)
first_only k (more t us) e r p q same =
    let m = object_parts k t p.0 in
    let once = one_element_lem m.element e (all_octets us) r m.cut.in_range q (ap (λ z. z ++ all_octets us) (sym m.cut.octets) ∙ same) in
    (t, us, refl, p.0, m.cut.octets ∙ ap element_octets once.0, p.1, once.1)

pub first_found : (k : ℕ) (ts : Trees) (t : Tree) (us : Trees) → AreObjects k ts → first_at ts ≡ Some (t, us) → IsObject k t × AreObjects k us × (all_octets ts ≡ octets t ++ all_octets us)
unfolding AreObjects
first_found k none t us p e = cc
first_found k (more x xs) t us p e =
    let both : ◌≡◌ {A = Tree × Trees} (x, xs) (t, us) = cc in
    let a : x ≡ t = ap (λ (z : Tree × Trees). z.0) both in
    let b : xs ≡ us = ap (λ (z : Tree × Trees). z.1) both in
    (subst (IsObject k) a p.0, subst (AreObjects k) b p.1, ap (λ z. octets z ++ all_octets xs) a ∙ ap (λ z. octets t ++ all_octets z) b)

-- no parts

pub end_only : (k : ℕ) (ts : Trees) → AreObjects k ts → all_octets ts ≡ [] → ts ≡ none
unfolding AreObjects
end_only k none p e = refl
end_only k (more t us) p e = absurd (omega (arith, ap length e, length-append (octets t) (all_octets us), object_long k t p.0))

pub end_found : (ts : Trees) → end_at ts ≡ Some tt → (ts ≡ none) × (all_octets ts ≡ [])
end_found none e = (refl, refl)
end_found (more t us) e = cc
