-- What an element's tree shows is read off its tag number and content.
use Rattle.std.proofs.Common.{◌≡◌, ◌∙◌, sym, ap, refl, ℕ, ◌-◌, ◌==◌, ◌&&◌, Bool, true, false, if◌then◌else◌, Option, Some, None, List, [], ◌∷◌, ◌++◌, ◌<◌, length, take, drop, slice_index_or, arith, length-append}
use Rattle.std.specs.Int.Digits.{number_from_digits}
use Rattle.std.proofs.lemmas.Bool.{eqb-true, eq-eqb}
use Rattle.std.proofs.Math.Seq.{drop-append_seam, take-length}
use Rattle.asn1_core.specs.Elements.{Element, head_of_element, element_octets}
use Rattle.asn1_core.specs.Strict.{strict_header}
use Rattle.der_tree.specs.Table.{Kind, integer, octet_string, object_descriptor, utf8_string, relative_oid, numeric_string, printable_string, t61_string, videotex_string, ia5_string, utc_time, generalized_time, graphic_string, visible_string, general_string, universal_string, bmp_string, tag_of, is_listed}
use Rattle.der_tree.specs.Tree.{Leaf, boolean, null, oid, enumerated, raw, Content, leaf, sequence, set, Trees, octets}
use Rattle.der_tree.specs.Access.{sequence_of, set_of, boolean_of, oid_of, bit_string_of, plain_of, sequence_at, set_at, boolean_at, oid_at, bit_string_at, plain_at, element_at}
use Rattle.der_tree.proofs.Objects.{kind_at, same_kind, kind_listed}
use Rattle.der_tree.proofs.OneTree.{is_true, bits_in, plain_in, listed_leaf, at_listed, plain_leaf}
use Rattle.certcheck.specs.Windows.{is_universal, is_constructed, leaf_at, held, trees_in, tree_of}
use Rattle.certcheck.proofs.WindowTrees.{both_true, not_constructed}

pub octets_of_tree : (e : Element) → octets (tree_of e) ≡ element_octets e
unfolding tree_of
octets_of_tree e = refl

-- the element itself

with_content : Element → List ℕ → Element
with_content e s = record { class = e.class; constructed = e.constructed; tag = e.tag; content = s }

pub element_of_tree : (e : Element) → element_at (tree_of e) ≡ e
unfolding tree_of with_content
element_of_tree e =
    let header = strict_header (head_of_element e) in
    let n : length (header ++ e.content) - length e.content ≡ length header = omega (arith, length-append header e.content) in
    ap (with_content e) (ap (λ k. drop k (header ++ e.content)) n ∙ drop-append_seam header e.content)

-- parts of sequences and sets

sequence_by : (a b : Bool) (ts : Trees) (l : Leaf) → sequence_of (if a then sequence ts else if b then set ts else leaf l) ≡ (if a then Some ts else None)
sequence_by true b ts l = refl
sequence_by false true ts l = refl
sequence_by false false ts l = refl

pub sequence_of_tree : (e : Element) → sequence_at (tree_of e) ≡ (if is_constructed 16 e then Some (trees_in e.content) else None)
unfolding tree_of
sequence_of_tree e = sequence_by (is_constructed 16 e) (is_constructed 17 e) (trees_in e.content) (leaf_at e)

set_by : (a b : Bool) (ts : Trees) (l : Leaf) → (b ≡ true → a ≡ false) → set_of (if a then sequence ts else if b then set ts else leaf l) ≡ (if b then Some ts else None)
set_by true true ts l one = let wrong : true ≡ false = one refl in cc
set_by true false ts l one = refl
set_by false true ts l one = refl
set_by false false ts l one = refl

tag_is : (n : ℕ) (e : Element) → is_universal n e ≡ true → e.tag ≡ n
tag_is n e test = eqb-true e.tag n (both_true (e.class == 0) (e.tag == n) test).1

one_tag : (e : Element) → is_constructed 17 e ≡ true → is_constructed 16 e ≡ false
one_tag e test = not_constructed 16 17 e (tag_is 17 e (both_true e.constructed (is_universal 17 e) test).1) refl

pub set_of_tree : (e : Element) → set_at (tree_of e) ≡ (if is_constructed 17 e then Some (trees_in e.content) else None)
unfolding tree_of
set_of_tree e = set_by (is_constructed 16 e) (is_constructed 17 e) (trees_in e.content) (leaf_at e) (one_tag e)

-- values of elements without parts: what `f` finds in contents, and in those of one tag number alone

content_if : {X : Type 0} (f : Content → Option X) (b : Bool) (x y : Content) → f x ≡ None → f y ≡ None → f (if b then x else y) ≡ None
content_if f true x y p q = p
content_if f false x y p q = q

leaf_if : {X : Type 0} (f : Content → Option X) (b : Bool) (x y : Leaf) → (b ≡ true → f (leaf x) ≡ None) → (b ≡ false → f (leaf y) ≡ None) → f (leaf (if b then x else y)) ≡ None
leaf_if f true x y p q = p refl
leaf_if f false x y p q = q refl

none_listed : {X : Type 0} (f : Content → Option X) (m : ℕ) (e : Element) →
    ((m == 1) ≡ true → f (leaf (boolean (is_true e.content))) ≡ None) →
    ((m == 3) ≡ true → f (leaf (bits_in e.content)) ≡ None) →
    f (leaf null) ≡ None →
    ((m == 6) ≡ true → f (leaf (oid e.content)) ≡ None) →
    f (leaf (enumerated (number_from_digits 256 e.content))) ≡ None →
    f (leaf (plain_in (kind_at m) e.content)) ≡ None →
    f (leaf (listed_leaf m e)) ≡ None
none_listed f m e one three five six ten others =
    leaf_if f (m == 1) _ _ one (λ a.
    leaf_if f (m == 3) _ _ three (λ b.
    leaf_if f (m == 5) _ _ (λ t. five) (λ c.
    leaf_if f (m == 6) _ _ six (λ d.
    leaf_if f (m == 10) _ _ (λ t. ten) (λ g. others)))))

none_leaf : {X : Type 0} (f : Content → Option X) (a b : Bool) (n : ℕ) (e : Element) → (a && (e.tag == n)) ≡ false → f (leaf (raw e)) ≡ None →
    ((e.tag == n) ≡ false → f (leaf (listed_leaf e.tag e)) ≡ None) → f (leaf (if a && b then listed_leaf e.tag e else raw e)) ≡ None
none_leaf f false b n e other left listed = left
none_leaf f true false n e other left listed = left
none_leaf f true true n e other left listed = listed other

some_leaf : (n : ℕ) (ts : Trees) (e : Element) → is_listed n ≡ true → (n == 16) ≡ false → (n == 17) ≡ false → is_universal n e ≡ true → held ts e ≡ leaf (listed_leaf n e)
some_leaf n ts e listed a b test =
    let both = both_true (e.class == 0) (e.tag == n) test in
    let class : e.class ≡ 0 = eqb-true e.class 0 both.0 in
    let tag : e.tag ≡ n = eqb-true e.tag n both.1 in
    ap (λ x. if x then sequence ts else if is_constructed 17 e then set ts else leaf (leaf_at e)) (not_constructed 16 n e tag a)
    ∙ ap (λ x. if x then set ts else leaf (leaf_at e)) (not_constructed 17 n e tag b)
    ∙ ap leaf (at_listed e n class tag listed)

-- how a value of one tag number is found
record Finds {X : Type 0} (f : Content → Option X) (n : ℕ) (x : Element → Option X) : Type 0 where
  listed : is_listed n ≡ true
  no_sequence : (n == 16) ≡ false
  no_set : (n == 17) ≡ false
  found : (e : Element) → f (leaf (listed_leaf n e)) ≡ x e
  sequences : (ts : Trees) → f (sequence ts) ≡ None
  sets : (ts : Trees) → f (set ts) ≡ None
  left : (e : Element) → f (leaf (raw e)) ≡ None
  others : (m : ℕ) (e : Element) → (m == n) ≡ false → f (leaf (listed_leaf m e)) ≡ None

value_by : {X : Type 0} (f : Content → Option X) (n : ℕ) (x : Element → Option X) (b : Bool) (ts : Trees) (e : Element) → Finds f n x → is_universal n e ≡ b →
    f (held ts e) ≡ (if b then x e else None)
value_by f n x true ts e by test = ap f (some_leaf n ts e by.listed by.no_sequence by.no_set test) ∙ by.found e
value_by f n x false ts e by test =
    content_if f (is_constructed 16 e) _ _ (by.sequences ts)
    (content_if f (is_constructed 17 e) _ _ (by.sets ts) (none_leaf f (e.class == 0) (is_listed e.tag) n e test (by.left e) (by.others e.tag e)))

-- identifiers

oid_bits : (s : List ℕ) → oid_of (leaf (bits_in s)) ≡ None
unfolding bits_in
oid_bits [] = refl
oid_bits (a ∷ s) = refl

oid_plain : (k : Option Kind) (s : List ℕ) → oid_of (leaf (plain_in k s)) ≡ None
unfolding plain_in
oid_plain None s = refl
oid_plain (Some k) s = refl

oid_others : (m : ℕ) (e : Element) → (m == 6) ≡ false → oid_of (leaf (listed_leaf m e)) ≡ None
oid_others m e other = none_listed oid_of m e (λ t. refl) (λ t. oid_bits e.content) refl (λ t. cc) refl (oid_plain (kind_at m) e.content)

pub oid_of_tree : (e : Element) → oid_at (tree_of e) ≡ (if is_universal 6 e then Some e.content else None)
unfolding tree_of
oid_of_tree e = value_by oid_of 6 (λ z. Some z.content) (is_universal 6 e) (trees_in e.content) e
    (record { listed = refl; no_sequence = refl; no_set = refl; found = λ z. refl; sequences = λ ts. refl; sets = λ ts. refl; left = λ z. refl; others = oid_others }) refl

-- booleans

boolean_bits : (s : List ℕ) → boolean_of (leaf (bits_in s)) ≡ None
unfolding bits_in
boolean_bits [] = refl
boolean_bits (a ∷ s) = refl

boolean_plain : (k : Option Kind) (s : List ℕ) → boolean_of (leaf (plain_in k s)) ≡ None
unfolding plain_in
boolean_plain None s = refl
boolean_plain (Some k) s = refl

boolean_others : (m : ℕ) (e : Element) → (m == 1) ≡ false → boolean_of (leaf (listed_leaf m e)) ≡ None
boolean_others m e other = none_listed boolean_of m e (λ t. cc) (λ t. boolean_bits e.content) refl (λ t. refl) refl (boolean_plain (kind_at m) e.content)

pub boolean_of_tree : (e : Element) → boolean_at (tree_of e) ≡ (if is_universal 1 e then Some (is_true e.content) else None)
unfolding tree_of
boolean_of_tree e = value_by boolean_of 1 (λ z. Some (is_true z.content)) (is_universal 1 e) (trees_in e.content) e
    (record { listed = refl; no_sequence = refl; no_set = refl; found = λ z. refl; sequences = λ ts. refl; sets = λ ts. refl; left = λ z. refl; others = boolean_others }) refl

-- bit strings

bits_plain : (k : Option Kind) (s : List ℕ) → bit_string_of (leaf (plain_in k s)) ≡ None
unfolding plain_in
bits_plain None s = refl
bits_plain (Some k) s = refl

bits_others : (m : ℕ) (e : Element) → (m == 3) ≡ false → bit_string_of (leaf (listed_leaf m e)) ≡ None
bits_others m e other = none_listed bit_string_of m e (λ t. refl) (λ t. cc) refl (λ t. refl) refl (bits_plain (kind_at m) e.content)

pub bits_of_tree : (e : Element) → bit_string_at (tree_of e) ≡ (if is_universal 3 e then bit_string_of (leaf (bits_in e.content)) else None)
unfolding tree_of
bits_of_tree e = value_by bit_string_of 3 (λ z. bit_string_of (leaf (bits_in z.content))) (is_universal 3 e) (trees_in e.content) e
    (record { listed = refl; no_sequence = refl; no_set = refl; found = λ z. refl; sequences = λ ts. refl; sets = λ ts. refl; left = λ z. refl; others = bits_others }) refl

abbrev bits_found : ℕ → List ℕ → Option (ℕ × List ℕ)
bits_found unused s = Some (unused, s)

bits_split : (s : List ℕ) → 0 < length s → bits_found (slice_index_or s 0 0) (take (length s - 1) (drop 1 s)) ≡ bit_string_of (leaf (bits_in s))
unfolding bits_in
bits_split [] some = absurd (omega arith)
bits_split (a ∷ s) some =
    let n : length (a ∷ s) - 1 ≡ length s = omega arith in
    ap (bits_found a) (ap (λ k. take k s) n ∙ take-length s)

pub bits_read : (e : Element) → is_universal 3 e ≡ true → 0 < length e.content →
    bits_found (slice_index_or e.content 0 0) (take (length e.content - 1) (drop 1 e.content)) ≡ bit_string_at (tree_of e)
bits_read e test some =
    bits_split e.content some ∙ ap (λ b. if b then bit_string_of (leaf (bits_in e.content)) else None) (sym test) ∙ sym (bits_of_tree e)

-- octets of the kinds

kind_if : (b : Bool) (k j : Kind) (n : ℕ) (rest : Option Kind) → (b ≡ true → n ≡ tag_of k) → (rest ≡ Some j → n ≡ tag_of j) → (if b then Some k else rest) ≡ Some j → n ≡ tag_of j
kind_if true k j n rest here there e = let same : k ≡ j = cc in here refl ∙ ap tag_of same
kind_if false k j n rest here there e = there e

kind_back : (n : ℕ) (j : Kind) → kind_at n ≡ Some j → n ≡ tag_of j
kind_back n j =
    kind_if (n == 2) integer j n _ (eqb-true n 2) (
    kind_if (n == 4) octet_string j n _ (eqb-true n 4) (
    kind_if (n == 7) object_descriptor j n _ (eqb-true n 7) (
    kind_if (n == 12) utf8_string j n _ (eqb-true n 12) (
    kind_if (n == 13) relative_oid j n _ (eqb-true n 13) (
    kind_if (n == 18) numeric_string j n _ (eqb-true n 18) (
    kind_if (n == 19) printable_string j n _ (eqb-true n 19) (
    kind_if (n == 20) t61_string j n _ (eqb-true n 20) (
    kind_if (n == 21) videotex_string j n _ (eqb-true n 21) (
    kind_if (n == 22) ia5_string j n _ (eqb-true n 22) (
    kind_if (n == 23) utc_time j n _ (eqb-true n 23) (
    kind_if (n == 24) generalized_time j n _ (eqb-true n 24) (
    kind_if (n == 25) graphic_string j n _ (eqb-true n 25) (
    kind_if (n == 26) visible_string j n _ (eqb-true n 26) (
    kind_if (n == 27) general_string j n _ (eqb-true n 27) (
    kind_if (n == 28) universal_string j n _ (eqb-true n 28) (
    kind_if (n == 30) bmp_string j n None (eqb-true n 30) (λ e. cc)))))))))))))))))

plain_bits : (k : Kind) (s : List ℕ) → plain_of k (leaf (bits_in s)) ≡ None
unfolding bits_in
plain_bits k [] = refl
plain_bits k (a ∷ s) = refl

if_none : (b : Bool) (s : List ℕ) → b ≡ false → (if b then Some s else None) ≡ None
if_none true s e = cc
if_none false s e = refl

other_kind : (b : Bool) (k j : Kind) (m : ℕ) → (tag_of j == tag_of k) ≡ b → m ≡ tag_of j → (m == tag_of k) ≡ false → b ≡ false
other_kind true k j m same is other =
    let tags : m ≡ tag_of k = is ∙ eqb-true (tag_of j) (tag_of k) same in
    let wrong = eq-eqb m (tag_of k) tags in
    cc
other_kind false k j m same is other = refl

plain_plain : (k : Kind) (m : ℕ) (found : Option Kind) (s : List ℕ) → kind_at m ≡ found → (m == tag_of k) ≡ false → plain_of k (leaf (plain_in found s)) ≡ None
unfolding plain_in
plain_plain k m None s e other = refl
plain_plain k m (Some j) s e other = if_none (tag_of j == tag_of k) s (other_kind (tag_of j == tag_of k) k j m refl (kind_back m j e) other)

plain_others : (k : Kind) (m : ℕ) (e : Element) → (m == tag_of k) ≡ false → plain_of k (leaf (listed_leaf m e)) ≡ None
plain_others k m e other = none_listed (plain_of k) m e (λ t. refl) (λ t. plain_bits k e.content) refl (λ t. refl) refl (plain_plain k m (kind_at m) e.content refl other)

plain_found : (k : Kind) (e : Element) → plain_of k (leaf (listed_leaf (tag_of k) e)) ≡ Some e.content
plain_found k e = ap (λ v. plain_of k (leaf v)) (plain_leaf k e) ∙ ap (λ b. if b then Some e.content else None) (eq-eqb (tag_of k) (tag_of k) refl)

parts_by : (b : Bool) (k : Kind) (n : ℕ) → (tag_of k == n) ≡ b → kind_at n ≡ None → b ≡ false
parts_by true k n e never =
    let some : kind_at n ≡ Some k = ap kind_at (sym (eqb-true (tag_of k) n e)) ∙ same_kind k in
    cc
parts_by false k n e never = refl

pub plain_of_tree : (k : Kind) (e : Element) → plain_at k (tree_of e) ≡ (if is_universal (tag_of k) e then Some e.content else None)
unfolding tree_of
plain_of_tree k e = value_by (plain_of k) (tag_of k) (λ z. Some z.content) (is_universal (tag_of k) e) (trees_in e.content) e
    (
    record {
      listed = kind_listed k;
      no_sequence = parts_by (tag_of k == 16) k 16 refl refl;
      no_set = parts_by (tag_of k == 17) k 17 refl refl;
      found = plain_found k;
      sequences = λ ts. refl;
      sets = λ ts. refl;
      left = λ z. refl;
      others = plain_others k;
    }
    ) refl
