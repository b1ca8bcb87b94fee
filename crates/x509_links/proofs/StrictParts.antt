-- Strict extensions, versions, serial numbers and unique identifiers are what the lenient grammars say.
use Rattle.std.proofs.Common.{◌≡◌, ◌≢◌, ◌⊎◌, refl, ap, subst, arith, ℕ, zero, suc, ◌<◌, ◌≤◌, ◌^◌, nat_lt, flat_map, pos, Bool, true, false, List, [], ◌∷◌, ◌++◌, map, length, Option, Some, None, option_map, inl, inr, lit<, append-nil, append_assoc}
use Rattle.std.specs.Int.Digits.{number_from_digits}
use Rattle.std.proofs.lemmas.Bool.{lt-ltb}
use Rattle.asn1_core.specs.Strict.{IsHead, strict_header}
use Rattle.asn1_core.specs.Elements.{Element, IsElement, head_of_element, element_octets}
use Rattle.asn1_core.proofs.StrictLaws.{header_is_lenient}
use Rattle.asn1_any.specs.Cutting.{Piece}
use Rattle.asn1_any.proofs.DerLaws.{strict_spells}
use Rattle.asn1_traits.specs.Integers.{twos_complement}
use Rattle.cert_model.specs.Fields.{Bits, Extension}
use Rattle.cert_model.specs.Octets.{number_octets, identifier_octets, primitive_octets, bits_content, implicit_bits_octets, optional_octets, flag_octets, extension_octets, extensions_octets, tagged_extensions_octets, version_octets}
use Rattle.cert_model.specs.Range.{IfThere, AreBits, IsExtension, AreExtensions}
use Rattle.x509_core.specs.Grammar.{Header, NoneBegins, One, Holds, ToEnd}
use Rattle.x509_core.proofs.Items.{none_here}
use Rattle.x509_names.specs.Leaves.{IsOid, IsOctets}
use Rattle.x509_certs.specs.Shared.{IsUnparsed, IsBoolean, ExtensionParts, X509Extension, ExtensionList, Extensions, absent, there, IsNumber, IsVersion, X509Version, IsTaggedVersion, Version, version_absent, version_there, IsSerial, IsIdentifier, IsOtherHeader, UniqueIdentifier, id_at_end, id_absent, id_there}
use Rattle.x509_links.specs.Lenient.{lenient_bits, lenient_extension}
use Rattle.x509_links.proofs.Strict.{one_small, one_strict, content_small, two_small, each_is, oid_is, strict_bits}

-- an element in range
pub element_in : (e : Element) → e.class < 4 → e.tag < 2 ^ 32 → length (element_octets e) < 2 ^ 64 → IsElement e
element_in e class tag small = record { class = class; tag = tag; size = content_small e small }

-- a strict element that doesn't mean what a grammar asks for
pub none_strict : {A : Type 0} (M : Piece → A → Type 0) (e : Element) (rest : List ℕ) → IsElement e → ((v : A) → M (record { octets = element_octets e; element = e }) v → ⊥) → NoneBegins (One M) (element_octets e ++ rest)
none_strict M e rest is none = none_here M (record { octets = element_octets e; element = e }) rest (strict_spells e is) none

-- a strict element begins with its header
pub header_strict : (e : Element) (rest : List ℕ) → IsElement e → Header (element_octets e ++ rest) (head_of_element e) (e.content ++ rest)
header_strict e rest is =
    let head : IsHead (head_of_element e) = record { class = is.class; tag = is.tag; size = is.size } in
    record { front = strict_header (head_of_element e); in_range = head; spells = header_is_lenient (head_of_element e) head; whole = append_assoc (strict_header (head_of_element e)) e.content rest }

-- ---- extensions

abbrev value_element : List ℕ → Element
value_element v = record { class = 0; constructed = false; tag = 4; content = v }

value_is : (v : List ℕ) → length (primitive_octets 4 v) < 2 ^ 64 → One IsOctets (primitive_octets 4 v ++ []) v []
value_is v small = one_strict IsOctets (value_element v) v [] (lit< tt) (lit< tt) small (record { leaf = record { tag_is = refl; primitive = refl }; meant = refl })

extension_parts : (b : Bool) (id v : List ℕ) → length (identifier_octets id) < 2 ^ 64 → length (primitive_octets 4 v) < 2 ^ 64 →
    ExtensionParts IsUnparsed (identifier_octets id ++ (flag_octets b ++ (primitive_octets 4 v ++ []))) (lenient_extension (record { identifier = id; critical = b; value = v })) []
extension_parts true id v front back =
    let last = primitive_octets 4 v ++ [] in
    record {
      after_id = flag_octets true ++ last;
      extn_id = one_strict IsOid (record { class = 0; constructed = false; tag = 6; content = id }) id (flag_octets true ++ last) (lit< tt) (lit< tt) front oid_is;
      written = Some true;
      after_critical = last;
      critical = one_small IsBoolean (record { class = 0; constructed = false; tag = 1; content = 255 ∷ [] }) true last (lit< tt) (lit< tt) (lit< tt)
          (record { leaf = record { tag_is = refl; primitive = refl }; meant = record { octet = 255; whole = refl; value = refl } });
      is_critical = refl;
      extn_value = value_is v back;
      parsed = refl;
    }
extension_parts false id v front back =
    let last = primitive_octets 4 v ++ [] in
    record {
      after_id = last;
      extn_id = one_strict IsOid (record { class = 0; constructed = false; tag = 6; content = id }) id last (lit< tt) (lit< tt) front oid_is;
      written = None;
      after_critical = last;
      critical = (refl, none_strict IsBoolean (value_element v) [] (element_in (value_element v) (lit< tt) (lit< tt) back) (λ b is. let tag : 4 ≡ 1 = is.leaf.tag_is in omega (arith, tag)));
      is_critical = refl;
      extn_value = value_is v back;
      parsed = refl;
    }

pub extension_is : (e : Extension) (rest : List ℕ) → IsExtension e → length (extension_octets e) < 2 ^ 64 → X509Extension IsUnparsed (extension_octets e ++ rest) (lenient_extension e) rest
unfolding extension_octets
extension_is e rest range small =
    let first = identifier_octets e.identifier in
    let last = primitive_octets 4 e.value ++ [] in
    let whole : Element = record { class = 0; constructed = true; tag = 16; content = first ++ (flag_octets e.critical ++ last) } in
    let both = two_small first (flag_octets e.critical ++ last) (content_small whole small) in
    let back = two_small (primitive_octets 4 e.value) [] (two_small (flag_octets e.critical) last both.1).1 in
    one_strict (Holds 16 (ExtensionParts IsUnparsed)) whole (lenient_extension e) rest (lit< tt) (lit< tt) small
    ([], record { tag = refl; inner = extension_parts e.critical e.identifier e.value both.0 back.0 })

pub extensions_is : (es : List Extension) (rest : List ℕ) → AreExtensions es → length (extensions_octets es) < 2 ^ 64 → ExtensionList IsUnparsed (extensions_octets es ++ rest) (map lenient_extension es) rest
unfolding extensions_octets
extensions_is es rest range small =
    let whole : Element = record { class = 0; constructed = true; tag = 16; content = flat_map extension_octets es } in
    one_strict (Holds 16 (ToEnd (X509Extension IsUnparsed))) whole (map lenient_extension es) rest (lit< tt) (lit< tt) small
    ([], record { tag = refl; inner = (each_is (Holds 16 (ExtensionParts IsUnparsed)) extension_octets lenient_extension IsExtension extension_is es range (content_small whole small), refl) })

pub tagged_is : (n : ℕ) (es : List Extension) → n < 2 ^ 32 → AreExtensions es → length (tagged_extensions_octets n es) < 2 ^ 64 → Extensions IsUnparsed n (tagged_extensions_octets n es ++ []) (map lenient_extension es) []
tagged_is n [] in_tag range small = absent refl refl refl
tagged_is n (e ∷ es) in_tag range small =
    let all = e ∷ es in
    let whole : Element = record { class = 2; constructed = true; tag = n; content = extensions_octets all } in
    there (record {
      head = head_of_element whole;
      after_header = extensions_octets all ++ [];
      header = header_strict whole [] (element_in whole (lit< tt) in_tag small);
      tag = refl;
      list = extensions_is all [] range (content_small whole small);
    }) refl

-- ---- serial numbers

abbrev pub serial_element : List ℕ → Element
serial_element n = record { class = 0; constructed = false; tag = 2; content = n }

pub serial_is : (n rest : List ℕ) → length (number_octets n) < 2 ^ 64 → One IsSerial (number_octets n ++ rest) n rest
serial_is n rest small = one_strict IsSerial (serial_element n) n rest (lit< tt) (lit< tt) small (record { tag = refl; content = refl })

-- ---- versions

number_one : (v : ℕ) → number_from_digits 256 (v ∷ []) ≡ v
number_one v = omega arith

number_is : (v : ℕ) → v < 128 → IsNumber (v ∷ []) v
unfolding twos_complement
number_is v small =
    let test : nat_lt v 128 ≡ true = lt-ltb v 128 small in
    record { shortest = tt; value = record { some = λ e. cc; value = rw test (ap pos (number_one v)) }; small = omega (arith, small) }

pub version_number_is : (v : ℕ) (rest : List ℕ) → v < 128 → One IsVersion (number_octets (v ∷ []) ++ rest) v rest
version_number_is v rest small =
    one_small IsVersion (serial_element (v ∷ [])) v rest (lit< tt) (lit< tt) (lit< tt) (record { leaf = record { tag_is = refl; primitive = refl }; meant = number_is v small })

tagged_version : (v : ℕ) (rest : List ℕ) → v < 128 → One IsTaggedVersion (element_octets (record { class = 2; constructed = true; tag = 0; content = number_octets (v ∷ []) }) ++ rest) v rest
tagged_version v rest small =
    let content = number_octets (v ∷ []) in
    one_small IsTaggedVersion (record { class = 2; constructed = true; tag = 0; content = content }) v rest (lit< tt) (lit< tt) (lit< tt)
    (record { class = refl; tag = refl; left = []; number = subst (λ z. X509Version z v []) (append-nil content) (version_number_is v [] small) })

pub version_is : (v : ℕ) (n rest : List ℕ) → v ≤ 2 → length (number_octets n) < 2 ^ 64 → Version (version_octets v ++ (number_octets n ++ rest)) v (number_octets n ++ rest)
version_is zero n rest known small =
    version_absent (record {
      piece = record { octets = number_octets n; element = serial_element n };
      rest = rest;
      begins = one_strict (λ p q. q ≡ p) (serial_element n) (record { octets = number_octets n; element = serial_element n }) rest (lit< tt) (lit< tt) small refl;
      tag = λ e. let tag : 2 ≡ 0 = e in omega (arith, tag);
    }) refl refl
version_is (suc zero) n rest known small = version_there (tagged_version 1 (number_octets n ++ rest) (lit< tt))
version_is (suc (suc zero)) n rest known small = version_there (tagged_version 2 (number_octets n ++ rest) (lit< tt))
version_is (suc (suc (suc v))) n rest known small = absurd (omega (arith, known))

-- ---- unique identifiers

-- nothing is left, or a header of another tag number is next
abbrev pub BeginsOtherwise : ℕ → List ℕ → Type 0
BeginsOtherwise n rest = (rest ≡ []) ⊎ IsOtherHeader n rest

pub begins_with : (n : ℕ) (e : Element) (rest : List ℕ) → IsElement e → e.tag ≢ n → BeginsOtherwise n (element_octets e ++ rest)
begins_with n e rest is other = inr (record { head = head_of_element e; after = e.content ++ rest; header = header_strict e rest is; tag = other })

pub tagged_otherwise : (n m : ℕ) (es : List Extension) → m < 2 ^ 32 → m ≢ n → length (tagged_extensions_octets m es) < 2 ^ 64 → BeginsOtherwise n (tagged_extensions_octets m es ++ [])
tagged_otherwise n m [] in_tag other small = inl refl
tagged_otherwise n m (e ∷ es) in_tag other small =
    let whole : Element = record { class = 2; constructed = true; tag = m; content = extensions_octets (e ∷ es) } in
    begins_with n whole [] (element_in whole (lit< tt) in_tag small) other

pub id_otherwise : (n m : ℕ) (id : Option Bits) (rest : List ℕ) → m < 2 ^ 32 → m ≢ n → length (optional_octets (implicit_bits_octets m) id) < 2 ^ 64 → BeginsOtherwise n rest → BeginsOtherwise n (optional_octets (implicit_bits_octets m) id ++ rest)
id_otherwise n m None rest in_tag other small behind = behind
id_otherwise n m (Some b) rest in_tag other small behind =
    let whole : Element = record { class = 2; constructed = false; tag = m; content = bits_content b } in
    begins_with n whole rest (element_in whole (lit< tt) in_tag small) other

no_id : (n : ℕ) (rest : List ℕ) → BeginsOtherwise n rest → UniqueIdentifier n rest None rest
no_id n rest (inl none) = id_at_end none refl refl
no_id n rest (inr other) = id_absent other refl refl

pub id_is : (n : ℕ) (id : Option Bits) (rest : List ℕ) → n < 2 ^ 32 → IfThere AreBits id → length (optional_octets (implicit_bits_octets n) id) < 2 ^ 64 → BeginsOtherwise n rest →
    UniqueIdentifier n (optional_octets (implicit_bits_octets n) id ++ rest) (option_map lenient_bits id) rest
id_is n None rest in_tag range small behind = no_id n rest behind
id_is n (Some b) rest in_tag range small behind =
    id_there (lenient_bits b) refl (one_strict (IsIdentifier n) (record { class = 2; constructed = false; tag = n; content = bits_content b }) (lenient_bits b) rest (lit< tt) in_tag small
    (record { class = refl; tag = refl; primitive = refl; bits = record { whole = refl; strict = strict_bits b range } }))
