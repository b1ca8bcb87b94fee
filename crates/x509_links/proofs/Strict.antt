-- Strict octets are what the lenient grammars say.
use Rattle.std.proofs.Common.{append-nil, ◌≡◌, ◌≢◌, ◌∙◌, refl, sym, ap, subst, ℕ, ◌^◌, ◌<◌, List, [], ◌∷◌, ◌++◌, map, true, false, length, arith, length-append, Option, Some, None, IsTrue, ◌==◌, ◌%◌, nat_lt, slice_index, Bool, ◌&&◌, ◌-◌, suc}
use Rattle.std.proofs.Math.Nat.{mod-one}
use Rattle.std.proofs.lemmas.Grind.{common_steps}
use Rattle.std.specs.List.{AllByRecursion, flat_map}
use Rattle.der_tree.specs.Table.{are_unused_zero}
use Rattle.asn1_values.specs.Bits.{AreStrictBits, AreUnusedZero}
use Rattle.asn1_core.specs.Strict.{strict_header}
use Rattle.asn1_core.specs.Elements.{Element, head_of_element, element_octets}
use Rattle.asn1_any.specs.Cutting.{Piece}
use Rattle.asn1_any.proofs.DerLaws.{strict_spells}
use Rattle.cert_model.specs.Fields.{Algorithm, Attribute, RelativeName, Name, Bits, Key}
use Rattle.cert_model.specs.Octets.{algorithm_octets, optional_octets, attribute_octets, relative_name_octets, name_octets, key_octets, bits_content, bit_field_octets}
use Rattle.cert_model.specs.Range.{IsAlgorithm, IsAny as IsAnyElement, IfThere, IsAttribute, IsRelativeName, IsName, IsKey, AreBits as AreStrict}
use Rattle.x509_core.specs.Grammar.{One, Holds, HoldsWindow, AsMany, UnlessAtEnd}
use Rattle.x509_core.proofs.Grammars.{none_at_end}
use Rattle.x509_names.specs.Leaves.{IsOid, IsAny, IsBits}
use Rattle.x509_names.specs.Names.{AlgorithmParts, AlgorithmIdentifier, AttributeParts, RelativeParts, NameParts, X509Name, KeyParts, SubjectPublicKeyInfo}
use Rattle.x509_links.specs.Lenient.{lenient_algorithm, lenient_attribute, lenient_set, lenient_name, lenient_bits, lenient_key}

-- a content is no longer than its element
pub content_small : (e : Element) → length (element_octets e) < 2 ^ 64 → length e.content < 2 ^ 64
content_small e small = omega (arith, length-append (strict_header (head_of_element e)) e.content)

-- a strict element of a short content means what its grammar says, before any rest
pub one_small : {A : Type 0} (M : Piece → A → Type 0) (e : Element) (v : A) (rest : List ℕ) → e.class < 4 → e.tag < 2 ^ 32 → length e.content < 2 ^ 64 →
    M (record { octets = element_octets e; element = e }) v → One M (element_octets e ++ rest) v rest
one_small M e v rest class tag small means = record {
  piece = record { octets = element_octets e; element = e };
  spells = strict_spells e (record { class = class; tag = tag; size = small });
  whole = refl;
  means = means;
}

-- a strict element means what its grammar says, before any rest
pub one_strict : {A : Type 0} (M : Piece → A → Type 0) (e : Element) (v : A) (rest : List ℕ) → e.class < 4 → e.tag < 2 ^ 32 → length (element_octets e) < 2 ^ 64 →
    M (record { octets = element_octets e; element = e }) v → One M (element_octets e ++ rest) v rest
one_strict M e v rest class tag small means = one_small M e v rest class tag (content_small e small) means

-- of two parts each is as short as both
pub two_small : (a b : List ℕ) → length (a ++ b) < 2 ^ 64 → (length a < 2 ^ 64) × (length b < 2 ^ 64)
two_small a b small = (omega (arith, small, length-append a b), omega (arith, small, length-append a b))

-- an identifier's octets mean themselves
pub oid_is : {id : List ℕ} → IsOid (record { octets = element_octets (record { class = 0; constructed = false; tag = 6; content = id }); element = record { class = 0; constructed = false; tag = 6; content = id } }) id
oid_is = record { leaf = record { tag_is = refl; primitive = refl }; meant = refl }

parameters_strict : (o : Option Element) → IfThere IsAnyElement o → length (optional_octets element_octets o) < 2 ^ 64 → UnlessAtEnd (One IsAny) (optional_octets element_octets o) o []
parameters_strict None range small = (refl, refl)
parameters_strict (Some e) range small =
    subst (λ z. One IsAny z e []) (append-nil (element_octets e)) (one_strict IsAny e e [] range.class range.tag small refl)

pub algorithm_is : (a : Algorithm) (rest : List ℕ) → IsAlgorithm a → length (algorithm_octets a) < 2 ^ 64 → AlgorithmIdentifier (algorithm_octets a ++ rest) (lenient_algorithm a) rest
unfolding algorithm_octets
algorithm_is a rest range small =
    let id : Element = record { class = 0; constructed = false; tag = 6; content = a.identifier } in
    let last = optional_octets element_octets a.parameters in
    let whole : Element = record { class = 0; constructed = true; tag = 16; content = element_octets id ++ last } in
    let inner : length (element_octets id ++ last) < 2 ^ 64 = content_small whole small in
    let front : length (element_octets id) < 2 ^ 64 = omega (arith, inner, length-append (element_octets id) last) in
    let back : length last < 2 ^ 64 = omega (arith, inner, length-append (element_octets id) last) in
    one_strict (Holds 16 AlgorithmParts) whole (lenient_algorithm a) rest (omega arith) (omega arith) small (
      [],
      record {
        tag = refl;
        inner = record {
          after_algorithm = last;
          algorithm = one_strict IsOid id a.identifier last (omega arith) (omega arith) front oid_is;
          parameters = parameters_strict a.parameters range.parameters back;
        };
      },
    )

attribute_is : (a : Attribute) (rest : List ℕ) → IsAttribute a → length (attribute_octets a) < 2 ^ 64 → One (Holds 16 AttributeParts) (attribute_octets a ++ rest) (lenient_attribute a) rest
unfolding attribute_octets
attribute_is a rest range small =
    let id : Element = record { class = 0; constructed = false; tag = 6; content = a.identifier } in
    let last = element_octets a.value in
    let whole : Element = record { class = 0; constructed = true; tag = 16; content = element_octets id ++ last } in
    let inner : length (element_octets id ++ last) < 2 ^ 64 = content_small whole small in
    let front : length (element_octets id) < 2 ^ 64 = omega (arith, inner, length-append (element_octets id) last) in
    let back : length last < 2 ^ 64 = omega (arith, inner, length-append (element_octets id) last) in
    one_strict (Holds 16 AttributeParts) whole (lenient_attribute a) rest (omega arith) (omega arith) small (
      [],
      record {
        tag = refl;
        inner = record {
          after_type = last;
          attr_type = one_strict IsOid id a.identifier last (omega arith) (omega arith) front oid_is;
          attr_value = subst (λ z. One IsAny z a.value []) (append-nil last) (one_strict IsAny a.value a.value [] range.value.class range.value.tag back refl);
        };
      },
    )

-- strict parts one after another, to the end
pub each_is : {X A : Type 0} (M : Piece → A → Type 0) (write : X → List ℕ) (view : X → A) (Is : X → Type 0) → ((x : X) (rest : List ℕ) → Is x → length (write x) < 2 ^ 64 → One M (write x ++ rest) (view x) rest) →
    (xs : List X) → AllByRecursion Is xs → length (flat_map write xs) < 2 ^ 64 → AsMany (One M) (flat_map write xs) (map view xs) []
unfolding AsMany
each_is M write view Is one [] each small = (refl, none_at_end M)
each_is M write view Is one (x ∷ xs) each small =
    let parts = length-append (write x) (flat_map write xs) in
    (flat_map write xs, one x (flat_map write xs) each.0 (omega (arith, parts, small)), each_is M write view Is one xs each.1 (omega (arith, parts, small)))

some_map : {X A : Type 0} (f : X → A) (xs : List X) → xs ≢ [] → map f xs ≢ []
some_map f [] some none = some refl
some_map f (x ∷ xs) some none = cc

relative_is : (s : RelativeName) (rest : List ℕ) → IsRelativeName s → length (relative_name_octets s) < 2 ^ 64 → One (Holds 17 RelativeParts) (relative_name_octets s ++ rest) (lenient_set s) rest
unfolding relative_name_octets
relative_is s rest range small =
    let content = flat_map attribute_octets s in
    let whole : Element = record { class = 0; constructed = true; tag = 17; content = content } in
    one_strict (Holds 17 RelativeParts) whole (lenient_set s) rest (omega arith) (omega arith) small (
      [],
      record {
        tag = refl;
        inner = record { some = some_map lenient_attribute s range.some; each = each_is (Holds 16 AttributeParts) attribute_octets lenient_attribute IsAttribute attribute_is s range.each (content_small whole small) };
      },
    )

pub name_is : (n : Name) (rest : List ℕ) → IsName n → length (name_octets n) < 2 ^ 64 → X509Name (name_octets n ++ rest) (lenient_name n) rest
unfolding name_octets
name_is n rest range small =
    let content = flat_map relative_name_octets n in
    let whole : Element = record { class = 0; constructed = true; tag = 16; content = content } in
    one_strict (HoldsWindow 16 NameParts (λ m. m.raw)) whole (lenient_name n) rest (omega arith) (omega arith) small (record {
      left = [];
      inside = record { tag = refl; inner = each_is (Holds 17 RelativeParts) relative_name_octets lenient_set IsRelativeName relative_is n range (content_small whole small) };
      window = sym (append-nil (element_octets whole));
    })

-- the unused bits are 0, as the last octet says
zero_at_end : (unused : ℕ) (s : List ℕ) → IsTrue (are_unused_zero unused s) → s ≢ [] → AreUnusedZero unused s
zero_at_end unused [] is some = absurd (some refl)
zero_at_end unused (a ∷ []) is some = let test : (a % 2 ^ unused == 0) ≡ true = is in grind (arith, common_steps)
zero_at_end unused (a ∷ b ∷ s) is some =
    let up : suc (suc (length s)) - 1 ≡ suc (length s) = omega arith in
    let down : suc (length s) - 1 ≡ length s = omega arith in
    ap (λ k. slice_index (a ∷ b ∷ s) k % 2 ^ unused) up ∙ sym (ap (λ k. slice_index (b ∷ s) k % 2 ^ unused) down) ∙ zero_at_end unused (b ∷ s) is (λ e. cc)

no_octet : (unused : ℕ) (s : List ℕ) → IsTrue (are_unused_zero unused s) → s ≡ [] → unused ≡ 0
no_octet unused [] is none = let test : (unused == 0) ≡ true = is in grind (arith, common_steps)
no_octet unused (a ∷ s) is none = cc

zero_of : (unused : ℕ) (s : List ℕ) → IsTrue (are_unused_zero unused s) → AreUnusedZero unused s
zero_of unused [] is = let none : unused ≡ 0 = no_octet unused [] is refl in rw none (mod-one (slice_index [] 0))
zero_of unused (a ∷ s) is = zero_at_end unused (a ∷ s) is (λ e. cc)

two_true : (a b : Bool) → (a && b) ≡ true → (a ≡ true) × (b ≡ true)
two_true true b is = (refl, is)
two_true false b is = cc

pub strict_bits : (b : Bits) → AreStrict b → AreStrictBits b.unused b.octets
strict_bits b is =
    let both = two_true (nat_lt b.unused 8) (are_unused_zero b.unused b.octets) is in
    let few : nat_lt b.unused 8 ≡ true = both.0 in
    let zero : IsTrue (are_unused_zero b.unused b.octets) = both.1 in
    record { bits = record { few = grind (arith, common_steps); none = no_octet b.unused b.octets zero }; zero = zero_of b.unused b.octets zero }

pub bits_is : (b : Bits) (rest : List ℕ) → AreStrict b → length (bit_field_octets b) < 2 ^ 64 → One IsBits (bit_field_octets b ++ rest) (lenient_bits b) rest
bits_is b rest is small =
    let e : Element = record { class = 0; constructed = false; tag = 3; content = bits_content b } in
    one_strict IsBits e (lenient_bits b) rest (omega arith) (omega arith) small
    (record { leaf = record { tag_is = refl; primitive = refl }; meant = record { whole = refl; strict = strict_bits b is } })

pub key_is : (k : Key) (rest : List ℕ) → IsKey k → length (key_octets k) < 2 ^ 64 → SubjectPublicKeyInfo (key_octets k ++ rest) (lenient_key k) rest
unfolding key_octets
key_is k rest range small =
    let first = algorithm_octets k.algorithm in
    let last = bit_field_octets k.key in
    let whole : Element = record { class = 0; constructed = true; tag = 16; content = first ++ last } in
    let inner : length (first ++ last) < 2 ^ 64 = content_small whole small in
    let front : length first < 2 ^ 64 = omega (arith, inner, length-append first last) in
    let back : length last < 2 ^ 64 = omega (arith, inner, length-append first last) in
    one_strict (HoldsWindow 16 KeyParts (λ m. m.raw)) whole (lenient_key k) rest (omega arith) (omega arith) small (record {
      left = [];
      inside = record {
        tag = refl;
        inner = record {
          after_algorithm = last;
          algorithm = algorithm_is k.algorithm last range.algorithm front;
          subject_public_key = subst (λ z. One IsBits z (lenient_bits k.key) []) (append-nil last) (bits_is k.key [] range.key back);
        };
      };
      window = sym (append-nil (element_octets whole));
    })
