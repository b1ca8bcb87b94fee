-- Key identifiers by the first octets of their elements.
use Rattle.std.proofs.Common.{◌≡◌, ◌∙◌, sym, ap, refl, subst, ℕ, ◌+◌, ◌^◌, ◌/◌, ◌%◌, ◌==◌, ◌<◌, ◌≤◌, List, [], ◌∷◌, ◌++◌, Bool, true, false, length, arith, nat_lt, if◌then◌else◌, length-append, append_assoc, inl, inr, ◌⊎◌, lit<, get_or, Option, Some, None, IfSome}
use Rattle.std.specs.List.{All, flat_map, AllByRecursion}
use Rattle.std.proofs.Math.Seq.{get_or-append_seam}
use Rattle.std.proofs.lemmas.Bool.{ltb-true}
use Rattle.std.proofs.lemmas.List.{append-nil}
use Rattle.asn1_core.specs.Digits.{continued}
use Rattle.std.specs.Int.Digits.{digits_of}
use Rattle.asn1_core.specs.Strict.{lead, strict_identifier, strict_length, strict_header}
use Rattle.asn1_core.specs.Elements.{Element, IsElement, head_of_element, element_octets}
use Rattle.asn1_core.proofs.Identities.{lead_class, lead_low, lead_constructed}
use Rattle.asn1_any.specs.DerElements.{BeginsWithElement}
use Rattle.asn1_any.proofs.DerLaws.{der_once, strict_begins}
use Rattle.der_tree.specs.Object.{IsCut, AreAll, IsDerObject}
use Rattle.der_tree.specs.Table as table
use Rattle.der_tree.specs.Table.{Stands, IsPrimitive, IsConstructed, IsRaw, tag_of}
use Rattle.cert_model.specs.Octets.{sequence_octets, primitive_octets}
use Rattle.cert_model.specs.Fields.{Identifier, Extension}
use Rattle.cert_model.specs.KeyIds.{IsFirstUnder, key_identifier_octets, BeginsWithKeyId}
use Rattle.cert_model.proofs.Bounds.{IsShort, cut_short, element_in}
use Rattle.asn1_traits.specs.Leaves.{LeafMeans}
use Rattle.x509_core.specs.Answers.{OrMemory}
use Rattle.x509_core.specs.Fronts.{TakesNoMemory}
use Rattle.x509_core.specs.Grammar.{One}
use Rattle.x509_core.specs.declared.error.X509Error.{X509Error}
use Rattle.asn1_core.specs.declared.outcome.Err.{Err as Refusal}
use Rattle.asn1_core.specs.declared.outcome.Err.TheVariants as refusals
use Rattle.x509_core.specs.Leaves.{IsOctets}
use Rattle.certpath_typed.proofs.Strict.{one_strict}
use Rattle.certpath_find.specs.Contents.{HasContent}

-- an element is what its first octet says
record Is (class : ℕ) (constructed : Bool) (tag : ℕ) (e : Element) : Type 0 where
  class_is : e.class ≡ class
  constructed_is : e.constructed ≡ constructed
  tag_is : e.tag ≡ tag

abbrev element : ℕ → Bool → ℕ → List ℕ → Element
element class constructed tag content = record { class = class; constructed = constructed; tag = tag; content = content }

is_element : (class : ℕ) (constructed : Bool) (tag : ℕ) (e : Element) → Is class constructed tag e → e ≡ element class constructed tag e.content
is_element class constructed tag e p =
    ap (λ z. element z e.constructed e.tag e.content) p.class_is ∙ ap (λ z. element class z e.tag e.content) p.constructed_is ∙ ap (λ z. element class constructed z e.content) p.tag_is

head : ℕ → List ℕ → ℕ
head x [] = x
head x (y ∷ ys) = y

low_or_high : (b : Bool) (class : ℕ) (constructed : Bool) (tag : ℕ) (ds rest after : List ℕ) (first : ℕ) → nat_lt tag 31 ≡ b
    → (if b then lead class constructed tag ∷ [] else lead class constructed 31 ∷ ds) ++ rest ≡ first ∷ after → ((tag < 31) × (lead class constructed tag ≡ first)) ⊎ (lead class constructed 31 ≡ first)
unfolding head
low_or_high true class constructed tag ds rest after first small e = inl (ltb-true tag 31 small, ap (head 0) e)
low_or_high false class constructed tag ds rest after first small e = inr (ap (head 0) e)

told : (class : ℕ) (constructed : Bool) (low : ℕ) (e : Element) (rest after : List ℕ) → low < 31 → element_octets e ++ rest ≡ lead class constructed low ∷ after → Is class constructed low e
told class constructed low e rest after small is =
    let h = head_of_element e in
    let behind = strict_length h.size ++ (e.content ++ rest) in
    let whole = sym (append_assoc (strict_identifier h.class h.constructed h.tag) (strict_length h.size) (e.content ++ rest)) ∙ sym (append_assoc (strict_header h) e.content rest) ∙ is in
    let low_small : low < 32 = omega arith in
    elim (low_or_high (nat_lt e.tag 31) e.class e.constructed e.tag (continued (digits_of 128 e.tag)) behind after (lead class constructed low) refl whole) [
      | inl p ↦
          let tag_small : e.tag < 32 = omega (arith, p.0) in record {
            class_is = sym (lead_class e.class e.constructed e.tag tag_small) ∙ ap (λ n. n / 64) p.1 ∙ lead_class class constructed low low_small;
            constructed_is = sym (lead_constructed e.class e.constructed e.tag tag_small) ∙ ap (λ n. n / 32 % 2 == 1) p.1 ∙ lead_constructed class constructed low low_small;
            tag_is = sym (lead_low e.class e.constructed e.tag tag_small) ∙ ap (λ n. n % 32) p.1 ∙ lead_low class constructed low low_small;
          }
      | inr p ↦
          let same : 31 ≡ low = sym (lead_low e.class e.constructed 31 (lit< tt)) ∙ ap (λ n. n % 32) p ∙ lead_low class constructed low low_small in
          absurd (omega arith)
    ]

-- the element of a strict front is the one that is read there
read_of : (s rest content : List ℕ) (first : ℕ) (e : Element) → IsElement e → s ≡ element_octets e ++ rest → HasContent first s content → e.content ≡ content
read_of s rest content first e p is h =
    let begins = subst (λ z. BeginsWithElement z e rest) (sym is) (strict_begins e rest p) in
    ap (λ (z : Element). z.content) (der_once s rest h.rest e h.element begins h.begins).0 ∙ h.holds

-- what is strictly at the front is read there
reads : (s rest : List ℕ) (first : ℕ) (after : List ℕ) (e : Element) → IsElement e → s ≡ element_octets e ++ rest → s ≡ first ∷ after → HasContent first s e.content
reads s rest first after e p is under = record {
  element = e;
  rest = rest;
  begins = subst (λ z. BeginsWithElement z e rest) (sym is) (strict_begins e rest p);
  holds = refl;
  after = after;
  under = under;
}

-- the first octets of the three elements
behind_first : (n : ℕ) (content rest : List ℕ) → List ℕ
behind_first n content rest = strict_length n ++ (content ++ rest)

spelled_first : (class : ℕ) (constructed : Bool) (tag : ℕ) (content rest : List ℕ) → nat_lt tag 31 ≡ true
    → element_octets (element class constructed tag content) ++ rest ≡ lead class constructed tag ∷ behind_first (length content) content rest
unfolding behind_first
spelled_first class constructed tag content rest small =
    let h = head_of_element (element class constructed tag content) in
    append_assoc (strict_header h) content rest ∙ append_assoc (strict_identifier class constructed tag) (strict_length (length content)) (content ++ rest)
    ∙ ap (λ b. (if b then lead class constructed tag ∷ [] else lead class constructed 31 ∷ continued (digits_of 128 tag)) ++ (strict_length (length content) ++ (content ++ rest))) small

-- the parts of an object that is a sequence
parts_of_sequence : (k : ℕ) (e : Element) → IsConstructed e 16 → Stands (AreAll (IsDerObject k)) e → AreAll (IsDerObject k) e.content
parts_of_sequence k e is (table.boolean p q) = absurd (omega (arith, is.tag, p.tag))
parts_of_sequence k e is (table.bit_string p q) = absurd (omega (arith, is.tag, p.tag))
parts_of_sequence k e is (table.null p q) = absurd (omega (arith, is.tag, p.tag))
parts_of_sequence k e is (table.oid p q) = absurd (omega (arith, is.tag, p.tag))
parts_of_sequence k e is (table.enumerated p q) = absurd (omega (arith, is.tag, p.tag))
parts_of_sequence k e is (table.sequence p q) = q
parts_of_sequence k e is (table.set p q) = absurd (omega (arith, is.tag, p.tag))
parts_of_sequence k e is (table.plain kind p q) = let a = is.constructed in let b = p.constructed in absurd cc
parts_of_sequence k e is (table.raw p) = let a = p is.class in let b = rw is.tag at a in absurd cc

-- an object under the first octet of a sequence is a sequence of objects
sequence_of : (s content : List ℕ) → IsDerObject 50 s → HasContent 48 s content → (s ≡ sequence_octets content) × AreAll (IsDerObject 49) content
unfolding IsDerObject
sequence_of s content p h =
    let e = p.0 in
    let whole : s ≡ element_octets e ++ [] = p.1.octets ∙ sym (append-nil (element_octets e)) in
    let is = told 0 true 16 e [] h.after (lit< tt) (sym whole ∙ h.under) in
    let same : e.content ≡ content = read_of s [] content 48 e p.1.in_range whole h in
    let all = parts_of_sequence 49 e (record { class = is.class_is; constructed = is.constructed_is; tag = is.tag_is }) p.2 in
    (p.1.octets ∙ ap element_octets (is_element 0 true 16 e is) ∙ ap sequence_octets same, subst (AreAll (IsDerObject 49)) same all)

-- objects that begin with the first octet of a key identifier begin with one
first_of_parts : (content id : List ℕ) (pieces : List (List ℕ)) → AllByRecursion (IsDerObject 49) pieces → content ≡ flat_map (λ piece. piece) pieces → HasContent 128 content id
    → (others : List ℕ) × (content ≡ key_identifier_octets id ++ others)
unfolding IsDerObject
first_of_parts content id [] all is h = let e = sym is ∙ h.under in absurd cc
first_of_parts content id (piece ∷ pieces) all is h =
    let p = all.0 in
    let e = p.0 in
    let rest = flat_map (λ (z : List ℕ). z) pieces in
    let whole : content ≡ element_octets e ++ rest = is ∙ ap (λ z. z ++ rest) p.1.octets in
    let told_of = told 2 false 0 e rest h.after (lit< tt) (sym whole ∙ h.under) in
    let same : e.content ≡ id = read_of content rest id 128 e p.1.in_range whole h in
    (rest, whole ∙ ap (λ z. element_octets z ++ rest) (is_element 2 false 0 e told_of) ∙ ap (λ z. key_identifier_octets z ++ rest) same)

pub named_found : (s parts id : List ℕ) → IsDerObject 50 s → HasContent 48 s parts → HasContent 128 parts id → BeginsWithKeyId s id
named_found s parts id p h i =
    let q = sequence_of s parts p h in
    let first = first_of_parts parts id q.1.0 q.1.1 q.1.2 i in
    (first.0, q.0 ∙ ap sequence_octets first.1)

short_of : (s : List ℕ) → IsDerObject 50 s → IsShort s
unfolding IsDerObject
short_of s p = cut_short s p.0 p.1

pub named_only : (s id : List ℕ) → IsDerObject 50 s → BeginsWithKeyId s id → (parts : List ℕ) × HasContent 48 s parts × HasContent 128 parts id
named_only s id p b =
    let others = b.0 in
    let parts = key_identifier_octets id ++ others in
    let outer = element 0 true 16 parts in
    let inner = element 2 false 0 id in
    let whole : s ≡ element_octets outer ++ [] = b.1 ∙ sym (append-nil (sequence_octets parts)) in
    let fits = element_in outer [] [] s (lit< tt) (lit< tt) whole (short_of s p) in
    let within = element_in inner [] others parts (lit< tt) (lit< tt) refl fits.1 in (
      parts,
      reads s [] 48 (behind_first (length parts) parts []) outer fits.0 whole (whole ∙ spelled_first 0 true 16 parts [] refl),
      reads parts others 128 (behind_first (length id) id others) inner within.0 refl (spelled_first 2 false 0 id others refl),
    )

pub own_found : (s id : List ℕ) → IsDerObject 50 s → HasContent 4 s id → s ≡ primitive_octets 4 id
unfolding IsDerObject
own_found s id p h =
    let e = p.0 in
    let whole : s ≡ element_octets e ++ [] = p.1.octets ∙ sym (append-nil (element_octets e)) in
    let is = told 0 false 4 e [] h.after (lit< tt) (sym whole ∙ h.under) in
    p.1.octets ∙ ap element_octets (is_element 0 false 4 e is) ∙ ap (primitive_octets 4) (read_of s [] id 4 e p.1.in_range whole h)

pub own_only : (s id : List ℕ) → length s ≤ 4_294_967_295 → s ≡ primitive_octets 4 id → IsDerObject 50 s × HasContent 4 s id
unfolding IsDerObject
own_only s id small is =
    let e = element 0 false 4 id in
    let whole : s ≡ element_octets e ++ [] = is ∙ sym (append-nil (primitive_octets 4 id)) in
    let short : IsShort s = omega (arith, small) in
    let fits = element_in e [] [] s (lit< tt) (lit< tt) whole short in
    let long = length-append (strict_header (head_of_element e)) id in
    let cut : IsCut s e = record { in_range = fits.0; size = omega (arith, small, ap length is, long); octets = is } in (
      (e, cut, table.plain table.octet_string (record { class = refl; constructed = refl; tag = refl }) tt),
      reads s [] 4 (behind_first (length id) id []) e fits.0 whole (whole ∙ spelled_first 0 false 4 id [] refl),
    )

-- what the lenient reader takes under the first octet of an octet string, and that it takes each strict one
pub octets_found : (s content rest after : List ℕ) → One IsOctets s content rest → s ≡ 4 ∷ after → HasContent 4 s content
octets_found s content rest after is under = record {
  element = is.piece.element;
  rest = rest;
  begins = record { front = is.piece.octets; spells = is.spells; whole = is.whole };
  holds = sym is.means.meant;
  after = after;
  under = under;
}

pub octets_only : (s content : List ℕ) → length s ≤ 4_294_967_295 → s ≡ primitive_octets 4 content → One IsOctets s content []
octets_only s content small is =
    let e = element 0 false 4 content in
    let short : length (element_octets e) < 2 ^ 64 = omega (arith, small, ap length is) in
    let whole : element_octets e ++ [] ≡ s = append-nil (element_octets e) ∙ sym is in
    subst (λ (z : List ℕ). One IsOctets z content []) whole
    (one_strict IsOctets e content [] (lit< tt) (lit< tt) short (record { leaf = record { tag_is = refl; primitive = refl }; meant = refl }))

-- a reader that takes no memory doesn't want it
pub no_memory : (e : Refusal X509Error) → OrMemory e → TakesNoMemory e → ⊥
no_memory (refusals.Incomplete n) p q = p
no_memory (refusals.Error e) p q = p
no_memory (refusals.Failure e) p q = q

-- a value of short extensions is short
pub first_small : (identifier : Identifier) (es : List Extension) (value : List ℕ) → All (λ (e : Extension). length e.value ≤ 4_294_967_295) es → IsFirstUnder identifier es value → length value ≤ 4_294_967_295
first_small identifier es value small f =
    let size : length es ≡ length f.front + length (f.extension ∷ f.back) = ap length f.place ∙ length-append f.front (f.extension ∷ f.back) in
    let below : length f.front < length es = omega arith in
    let at : get_or es (length f.front) f.extension ≡ f.extension = ap (λ z. get_or z (length f.front) f.extension) f.place ∙ get_or-append_seam f.front f.extension f.back f.extension in
    subst (λ (v : List ℕ). length v ≤ 4_294_967_295) (ap (λ (e : Extension). e.value) at ∙ f.value_is) (small (length f.front) f.extension below)

pub some_weaker : {A : Type 0} (o : Option A) (P Q : A → Type 0) → ((a : A) → P a → Q a) → IfSome o P → IfSome o Q
some_weaker None P Q f p = tt
some_weaker (Some a) P Q f p = f a p

pub not_both : (b : Bool) → b ≡ true → b ≡ false → ⊥
not_both true p q = cc
not_both false p q = cc
