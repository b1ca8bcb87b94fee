-- An item has one first fault: one blame, and one fault of it.
use Rattle.std.proofs.Common.{◌≡◌, ◌∙◌, refl, sym, ap, ℕ, List, drop, length, Bool, true, false, Option, Some, Result, Ok, Err, subst}
use Rattle.asn1_core.specs.Answers.{Answer}
use Rattle.asn1_core.specs.Elements.{Element}
use Rattle.asn1_core.specs.Lenient.{BerHead}
use Rattle.asn1_core.specs.Reading.{ber_header_at}
use Rattle.asn1_core.specs.Views.{class_number, definite_size, ber_head_of, class_of, constructed_of, tag_of, length_of, with_class_of, with_constructed_of, with_tag_of, with_length_of}
use Rattle.asn1_core.specs.declared.class.Class.{Class}
use Rattle.asn1_core.specs.declared.class.Class.TheVariants.{Universal, Application, ContextSpecific, Private}
use Rattle.asn1_core.specs.declared.header.Header.{Header}
use Rattle.asn1_core.specs.declared.length.Length.{Length}
use Rattle.asn1_core.specs.declared.length.Length.TheVariants.{Definite, Indefinite}
use Rattle.asn1_core.specs.declared.tag.Tag.{Tag}
use Rattle.der_tree.specs.Tree.{Tree}
use Rattle.der_tree.specs.Shape.{IsObject}
use Rattle.cert_model.specs.Range.{IfThere}
use Rattle.cert_model.specs.PieceOctets.{HasSmallContent}
use Rattle.cert_faults.specs.declared.fault.Fault.{Fault}
use Rattle.cert_faults.specs.declared.places.Expected.{Expected}
use Rattle.cert_faults.specs.declared.places.Field.{Field}
use Rattle.cert_faults.specs.declared.places.Field.TheVariants as fields
use Rattle.cert_faults.specs.declared.places.Part.{Part}
use Rattle.cert_faults.specs.Steps.{Outcome, Rest, whole}
use Rattle.cert_faults.specs.Walks.{extensions_fault}
use Rattle.cert_faults.specs.Elements.{IsObjectFault}
use Rattle.cert_faults.specs.Items.{tagged, Front, certificate_front, list_front, signed_front, signed_end, IsTaggedFault, early, primitive, content, IsSignedFault, before, within, after, means_list}
use Rattle.cert_faults.specs.Fault.{IsFaultAs, IsFieldFault, IsItemFault, HeadsBy, IsFound, IsFaultOf, IsFirstFault}
use Rattle.cert_faults.proofs.Opening.{the_ok, no_ok}
use Rattle.cert_faults.proofs.Faults.{tagged_refused}
use Rattle.laws_items.proofs.OneBroken.{one_object_fault}
use Rattle.laws_items.proofs.FrontParts.{small_there, certificate_left, list_left, signed_left}

the_err : {A B : Type 0} (r : Result A B) (b c : B) → r ≡ Err b → r ≡ Err c → b ≡ c
the_err r b c p q = cc

the_same : {A : Type 0} (r : Outcome A) (x y : A) → r ≡ Ok x → r ≡ Ok y → x ≡ y
the_same r x y p q = the_ok x y (sym p ∙ q)

-- extensions in a tagged element

same_there : (o : Option Element) (e f : Element) → o ≡ Some e → o ≡ Some f → e ≡ f
same_there o e f p q = cc

never_both : {P : Type 0} (b : Bool) → b ≡ true → b ≡ false → P
never_both b p q = absurd cc

one_tagged : (field : Field) (tag : ℕ) (later : Bool) (r : Rest) (b c : _) → IsTaggedFault field tag later r b → IsTaggedFault field tag later r c → b ≡ c
one_tagged field tag later r b c (early e p l i) (early f q m j) = i ∙ sym j
one_tagged field tag later r b c (early e p l i) (primitive f q m g j) = never_both later m l
one_tagged field tag later r b c (early e p l i) (content f q m g j) = never_both later m l
one_tagged field tag later r b c (primitive e p l h i) (early f q m j) = never_both later l m
one_tagged field tag later r b c (primitive e p l h i) (primitive f q m g j) = i ∙ sym j
one_tagged field tag later r b c (primitive e p l h i) (content f q m g j) =
    never_both f.constructed g (subst (λ (z : Element). z.constructed ≡ false) (same_there (tagged tag r).0 e f p q) h)
one_tagged field tag later r b c (content e p l h i) (early f q m j) = never_both later l m
one_tagged field tag later r b c (content e p l h i) (primitive f q m g j) =
    never_both f.constructed (subst (λ (z : Element). z.constructed ≡ true) (same_there (tagged tag r).0 e f p q) h) g
one_tagged field tag later r b c (content e p l h i) (content f q m g j) =
    let n = (tagged tag r).1 in
    let there = subst (λ (z : Element). IsObjectFault (λ t d. extensions_fault field n t ≡ Err d) (whole field) z.content n b) (same_there (tagged tag r).0 e f p q) i in
    one_object_fault (λ t d. extensions_fault field n t ≡ Err d) (λ t x y o v w. the_err (extensions_fault field n t) x y v w) (whole field) f.content n b c there j

-- a certificate, and a list

one_signed : (field : Field) (front : ℕ → Tree → Outcome Front) (last : Field) (tag n : ℕ) (t : Tree) (b c : _) →
    ((f : Front × Rest) → signed_front field front n t ≡ Ok f → IfThere HasSmallContent (tagged tag f.0.1).0) →
    IsSignedFault field front last tag n t b → IsSignedFault field front last tag n t c → b ≡ c
one_signed field front last tag n t b c small (before p) (before q) = the_err (signed_front field front n t) b c p q
one_signed field front last tag n t b c small (before p) (within g q j) = no_ok (signed_front field front n t) g b q p
one_signed field front last tag n t b c small (before p) (after g q has j) = no_ok (signed_front field front n t) g b q p
one_signed field front last tag n t b c small (within f p i) (before q) = no_ok (signed_front field front n t) f c p q
one_signed field front last tag n t b c small (within f p i) (within g q j) =
    let same = the_same (signed_front field front n t) f g p q in
    one_tagged last tag g.0.0 g.0.1 b c (subst (λ (z : Front × Rest). IsTaggedFault last tag z.0.0 z.0.1 b) same i) j
one_signed field front last tag n t b c small (within f p i) (after g q has j) =
    let same = the_same (signed_front field front n t) f g p q in
    absurd (tagged_refused last tag g.0.0 g.0.1 b (subst (λ (z : Front × Rest). IsTaggedFault last tag z.0.0 z.0.1 b) same i) (small g q) has)
one_signed field front last tag n t b c small (after f p has i) (before q) = no_ok (signed_front field front n t) f c p q
one_signed field front last tag n t b c small (after f p has i) (within g q j) =
    let same = the_same (signed_front field front n t) g f q p in
    absurd (tagged_refused last tag f.0.0 f.0.1 c (subst (λ (z : Front × Rest). IsTaggedFault last tag z.0.0 z.0.1 c) same j) (small f p) has)
one_signed field front last tag n t b c small (after f p has i) (after g q there j) =
    let same = the_same (signed_front field front n t) f g p q in
    the_err (signed_end field (tagged tag g.0.1).2 g.1) b c (subst (λ (z : Front × Rest). signed_end field (tagged tag z.0.1).2 z.1 ≡ Err b) same i) j

-- an object, by its fields
one_fault_as : (as_list : Bool) (n : ℕ) (t : Tree) (b c : _) → IsObject 50 t → IsFaultAs as_list n t b → IsFaultAs as_list n t c → b ≡ c
one_fault_as true n t b c o p q =
    one_signed fields.TbsCertList list_front fields.ListExtensions 0 n t b c (λ f e. small_there 48 0 f.0.1 (signed_left fields.TbsCertList list_front list_left 50 n t f o e)) p q
one_fault_as false n t b c o p q =
    one_signed fields.TbsCertificate certificate_front fields.Extensions 3 n t b c (λ f e. small_there 48 3 f.0.1 (signed_left fields.TbsCertificate certificate_front certificate_left 50 n t f o e)) p q

-- octets have one blame
pub one_blame : (s : List ℕ) (b c : _) → IsItemFault s b → IsItemFault s c → b ≡ c
one_blame s b c p q =
    one_object_fault (IsFieldFault (length s)) (λ t x y o v w. one_fault_as (means_list t) (length s) t x y o v w) (whole fields.Item) s (length s) b c p q

-- headers that say the same are equal

one_class : (a b : Class) → class_number a ≡ class_number b → a ≡ b
one_class Universal Universal e = refl
one_class Universal Application e = absurd cc
one_class Universal ContextSpecific e = absurd cc
one_class Universal Private e = absurd cc
one_class Application Universal e = absurd cc
one_class Application Application e = refl
one_class Application ContextSpecific e = absurd cc
one_class Application Private e = absurd cc
one_class ContextSpecific Universal e = absurd cc
one_class ContextSpecific Application e = absurd cc
one_class ContextSpecific ContextSpecific e = refl
one_class ContextSpecific Private e = absurd cc
one_class Private Universal e = absurd cc
one_class Private Application e = absurd cc
one_class Private ContextSpecific e = absurd cc
one_class Private Private e = refl

one_length : (a b : Length) → definite_size a ≡ definite_size b → a ≡ b
one_length (Definite n) (Definite m) e = let same : n ≡ m = cc in ap (λ (z : ℕ). Definite z) same
one_length (Definite n) Indefinite e = absurd cc
one_length Indefinite (Definite m) e = absurd cc
one_length Indefinite Indefinite e = refl

one_tag : (a b : Tag) → a.0 ≡ b.0 → a ≡ b
one_tag a b e = ap (λ n. record { 0 = n }) e

pub one_header : (h k : Header) → ber_head_of h ≡ ber_head_of k → h ≡ k
one_header h k e =
    let class : class_of h ≡ class_of k = one_class (class_of h) (class_of k) (ap (λ (z : BerHead). z.class) e) in
    let constructed : constructed_of h ≡ constructed_of k = ap (λ (z : BerHead). z.constructed) e in
    let tag : tag_of h ≡ tag_of k = one_tag (tag_of h) (tag_of k) (ap (λ (z : BerHead). z.tag) e) in
    let size : length_of h ≡ length_of k = one_length (length_of h) (length_of k) (ap (λ (z : BerHead). z.size) e) in
    let a = with_class_of h (class_of k) in
    let b = with_constructed_of a (constructed_of k) in
    let c = with_tag_of b (tag_of k) in
    ap (λ (z : Class). with_class_of h z) class ∙ ap (λ (z : Bool). with_constructed_of a z) constructed ∙ ap (λ (z : Tag). with_tag_of b z) tag ∙ ap (λ (z : Length). with_length_of c z) size

-- what is found

one_head : (x : Answer BerHead) (f g : Option Header) → HeadsBy x f → HeadsBy x g → f ≡ g
one_head (Ok h) f g p q = p.1 ∙ ap (λ (z : Header). Some z) (one_header p.0 q.0 (p.2 ∙ sym q.2)) ∙ sym q.1
one_head (Err e) f g p q = p ∙ sym q

one_found : (is_missing : Bool) (s : List ℕ) (f g : Option Header) → IsFound is_missing s f → IsFound is_missing s g → f ≡ g
one_found true s f g p q = p ∙ sym q
one_found false s f g p q = one_head (ber_header_at s) f g p q

-- faults with equal parts are equal
same_parts : (f g : Fault) → f.field ≡ g.field → f.part ≡ g.part → f.expected ≡ g.expected → f.offset ≡ g.offset → f.found ≡ g.found → f ≡ g
same_parts f g field part expected offset found =
    ap (λ (z : Field). record f { field = z }) field
    ∙ ap (λ (z : Part). record f { field = g.field; part = z }) part
    ∙ ap (λ (z : Expected). record f { field = g.field; part = g.part; expected = z }) expected
    ∙ ap (λ (z : ℕ). record f { field = g.field; part = g.part; expected = g.expected; offset = z }) offset
    ∙ ap (λ (z : Option Header). record g { found = z }) found

-- a blame stands for one fault
pub one_fault_of : (s : List ℕ) (b : _) (f g : Fault) → IsFaultOf s b f → IsFaultOf s b g → f ≡ g
one_fault_of s b f g p q =
    let offset : f.offset ≡ g.offset = p.offset ∙ sym q.offset in
    let there : IsFound b.is_missing (drop g.offset s) f.found = subst (λ (z : ℕ). IsFound b.is_missing (drop z s) f.found) offset p.found in
    same_parts f g (p.field ∙ sym q.field) (p.part ∙ sym q.part) (p.expected ∙ sym q.expected) offset (one_found b.is_missing (drop g.offset s) f.found g.found there q.found)

-- octets have one first fault
pub one_fault : (s : List ℕ) (f g : Fault) → IsFirstFault s f → IsFirstFault s g → f ≡ g
one_fault s f g p q = one_fault_of s q.0 f g (subst (λ z. IsFaultOf s z f) (one_blame s p.0 q.0 p.1 q.1) p.2) q.2
