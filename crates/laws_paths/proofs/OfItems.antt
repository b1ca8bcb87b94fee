-- The certificates of `limited_above`, and the anchor d, are certificates in their one spelling.
use Rattle.std.specs.Prelude.{◌&&◌, slice_index}
use Rattle.std.proofs.Common.{◌≡◌, ◌≢◌, refl, arith, ℕ, zero, suc, ◌<◌, ◌≤◌, ◌^◌, nat_lt, Bool, true, false, List, [], ◌∷◌, length, lit<, lit≤, flat_map, drop}
use Rattle.std.specs.Int.Digits.{AllBelowBase}
use Rattle.std.specs.List.{AllByRecursion, list_all}
use Rattle.std.proofs.lemmas.Bool.{ltb-true}
use Rattle.std.proofs.lemmas.Int.{ints}
use Rattle.std.proofs.lemmas.Str.{IsUtf8-from_ascii}
use Rattle.asn1_core.specs.Elements.{Element, element_octets}
use Rattle.asn1_oid.specs.Identifier.{IsOidContent}
use Rattle.asn1_oid.specs.Reading.{is_strict_after}
use Rattle.asn1_oid.proofs.ReadWritten.{strict_is_content}
use Rattle.der_tree.specs.Object.{AreAll, IsDerObject}
use Rattle.der_tree.specs.Table.{Stands, bit_string, oid, sequence, set, plain, raw, integer, utf8_string, utc_time}
use Rattle.der_tree.specs.Time.{IsMoment}
use Rattle.cert_model.specs.Class.{IsCertificateItem}
use Rattle.cert_model.specs.Examples.{one_two_three, algorithm, no_bits, key, new_year, common_name, basic_constraints, issued_by_b, plain as plain_certificate}
use Rattle.cert_model.specs.Fields.{Name, Extension, Certificate}
use Rattle.cert_model.specs.Octets.{sequence_octets, set_octets, explicit_octets, primitive_octets, number_octets, identifier_octets, bit_field_octets, algorithm_octets, attribute_octets, relative_name_octets, name_octets, key_octets, moment_in, time_octets, validity_octets, version_octets, extension_octets, extensions_octets, tagged_extensions_octets, tbs_certificate_octets, certificate_octets}
use Rattle.cert_model.specs.Range.{IsAlgorithm, IsName, IsTimeField, AreExtensions, AreCertificateFields}
use Rattle.cert_judge.specs.Examples.{anchor_named, authority, extension, limited_to, unlimited}

-- octets that are tested to be octets
two_true : (a b : Bool) → (a && b) ≡ true → (a ≡ true) × (b ≡ true)
two_true true b is = (refl, is)
two_true false b is = cc

below_tested : (s : List ℕ) → list_all (λ d. nat_lt d 256) s ≡ true → AllBelowBase 256 s
below_tested [] is = tt
below_tested (x ∷ s) is = let both = two_true (nat_lt x 256) (list_all (λ d. nat_lt d 256) s) is in (ltb-true x 256 both.0, below_tested s both.1)

-- ---- identifiers and times

abbrev named : List ℕ
named = 0x55 ∷ 0x04 ∷ 0x03 ∷ []

algorithm_numbered : IsOidContent one_two_three
unfolding is_strict_after
algorithm_numbered = strict_is_content one_two_three (below_tested one_two_three refl) refl

constraints_numbered : IsOidContent basic_constraints
unfolding is_strict_after
constraints_numbered = strict_is_content basic_constraints (below_tested basic_constraints refl) refl

name_numbered : IsOidContent named
unfolding is_strict_after
name_numbered = strict_is_content named (below_tested named refl) refl

-- the year is 2025 or 2026
first_day : (year : ℕ) → 2025 ≤ year → year ≤ 2026 → IsMoment (moment_in (new_year year))
first_day year from to = (((omega (arith, ints), omega (arith, ints)), (omega (arith, ints), omega (arith, ints)), (omega (arith, ints), omega (arith, ints))), ((omega (arith, ints), omega (arith, ints)), (omega (arith, ints), omega (arith, ints)), (omega (arith, ints), omega (arith, ints)), (omega (arith, ints), omega (arith, ints))))

day_in_range : (year : ℕ) → 2025 ≤ year → year ≤ 2026 → IsTimeField (new_year year)
day_in_range year from to = record { first = omega (arith, ints); last = omega (arith, ints); real = first_day year from to; whole = refl }

-- ---- objects

object : (k : ℕ) (e : Element) → e.class < 4 → e.tag < 2 ^ 32 → length e.content < 2 ^ 32 → Stands (AreAll (IsDerObject k)) e → IsDerObject (suc k) (element_octets e)
unfolding IsDerObject
object k e class tag small stands = (e, record { in_range = record { class = class; tag = tag; size = omega (arith, small) }; size = omega (arith, small); octets = refl }, stands)

-- a sequence and a set of objects
parts_object : (k : ℕ) (pieces : List (List ℕ)) → length (flat_map (λ piece. piece) pieces) < 2 ^ 32 → AllByRecursion (IsDerObject k) pieces → IsDerObject (suc k) (sequence_octets (flat_map (λ piece. piece) pieces))
parts_object k pieces small each =
    object k (record { class = 0; constructed = true; tag = 16; content = flat_map (λ piece. piece) pieces }) (lit< tt) (lit< tt) small
    (sequence (record { class = refl; constructed = refl; tag = refl }) (pieces, each, refl))

set_object : (k : ℕ) (pieces : List (List ℕ)) → length (flat_map (λ piece. piece) pieces) < 2 ^ 32 → AllByRecursion (IsDerObject k) pieces → IsDerObject (suc k) (set_octets (flat_map (λ piece. piece) pieces))
set_object k pieces small each =
    object k (record { class = 0; constructed = true; tag = 17; content = flat_map (λ piece. piece) pieces }) (lit< tt) (lit< tt) small
    (set (record { class = refl; constructed = refl; tag = refl }) (pieces, each, refl))

oid_object : (k : ℕ) (id : List ℕ) → length id < 2 ^ 32 → IsOidContent id → IsDerObject (suc k) (identifier_octets id)
oid_object k id small is = object k (record { class = 0; constructed = false; tag = 6; content = id }) (lit< tt) (lit< tt) small (oid (record { class = refl; constructed = refl; tag = refl }) is)

ascii : (letter : ℕ) → letter < 128 → (i : ℕ) → slice_index (letter ∷ []) i < 128
ascii letter small zero = small
ascii letter small (suc i) = omega arith

text_object : (k letter : ℕ) → letter < 128 → IsDerObject (suc k) (primitive_octets 12 (letter ∷ []))
text_object k letter small =
    object k (record { class = 0; constructed = false; tag = 12; content = letter ∷ [] }) (lit< tt) (lit< tt) (lit< tt) (plain utf8_string (record { class = refl; constructed = refl; tag = refl }) (IsUtf8-from_ascii (letter ∷ []) (ascii letter small)))

one_object : (k : ℕ) → IsDerObject (suc k) (number_octets (1 ∷ []))
one_object k = object k (record { class = 0; constructed = false; tag = 2; content = 1 ∷ [] }) (lit< tt) (lit< tt) (lit< tt) (plain integer (record { class = refl; constructed = refl; tag = refl }) refl)

no_bits_object : (k : ℕ) → IsDerObject (suc k) (bit_field_octets no_bits)
no_bits_object k = object k (record { class = 0; constructed = false; tag = 3; content = 0 ∷ [] }) (lit< tt) (lit< tt) (lit< tt) (bit_string (record { class = refl; constructed = refl; tag = refl }) refl)

-- nothing is asked of what is context-specific
context_object : (k n : ℕ) (content : List ℕ) → n < 2 ^ 32 → length content < 2 ^ 32 → IsDerObject (suc k) (explicit_octets n content)
context_object k n content tag small =
    object k (record { class = 2; constructed = true; tag = n; content = content }) (lit< tt) tag small (raw (λ universal. let two : 2 ≡ 0 = universal in absurd (omega (arith, two))))

day_2025 : (k : ℕ) → IsDerObject (suc k) (time_octets (new_year 2025))
day_2025 k =
    object k (record { class = 0; constructed = false; tag = 23; content = 0x32 ∷ 0x35 ∷ 0x30 ∷ 0x31 ∷ 0x30 ∷ 0x31 ∷ 0x30 ∷ 0x30 ∷ 0x30 ∷ 0x30 ∷ 0x30 ∷ 0x30 ∷ 0x5a ∷ [] })
    (lit< tt) (lit< tt) (lit< tt) (plain utc_time (record { class = refl; constructed = refl; tag = refl })
    (record { moment = moment_in (new_year 2025); is_moment = first_day 2025 (lit≤ tt) (lit≤ tt); first = lit≤ tt; last = lit< tt; octets = refl }))

day_2026 : (k : ℕ) → IsDerObject (suc k) (time_octets (new_year 2026))
day_2026 k =
    object k (record { class = 0; constructed = false; tag = 23; content = 0x32 ∷ 0x36 ∷ 0x30 ∷ 0x31 ∷ 0x30 ∷ 0x31 ∷ 0x30 ∷ 0x30 ∷ 0x30 ∷ 0x30 ∷ 0x30 ∷ 0x30 ∷ 0x5a ∷ [] })
    (lit< tt) (lit< tt) (lit< tt) (plain utc_time (record { class = refl; constructed = refl; tag = refl })
    (record { moment = moment_in (new_year 2026); is_moment = first_day 2026 (lit≤ tt) (lit≤ tt); first = lit≤ tt; last = lit< tt; octets = refl }))

empty_object : (k : ℕ) → IsDerObject (suc k) (name_octets [])
unfolding name_octets
empty_object k = parts_object k [] (lit< tt) tt

-- a name of one letter
name_object : (k letter : ℕ) → letter < 128 → IsDerObject (suc (suc (suc (suc k)))) (name_octets (common_name letter))
unfolding name_octets relative_name_octets attribute_octets
name_object k letter small =
    let attribute = sequence_octets (flat_map (λ piece. piece) (identifier_octets named ∷ primitive_octets 12 (letter ∷ []) ∷ [])) in
    parts_object (suc (suc (suc k))) (set_octets (flat_map (λ piece. piece) (attribute ∷ [])) ∷ []) (lit< tt) (
      set_object (suc (suc k)) (attribute ∷ []) (lit< tt) (
        parts_object (suc k) (identifier_octets named ∷ primitive_octets 12 (letter ∷ []) ∷ []) (lit< tt) (oid_object k named (lit< tt) name_numbered, (text_object k letter small, tt)),
        tt,
      ),
      tt,
    )

algorithm_object : (k : ℕ) → IsDerObject (suc (suc k)) (algorithm_octets algorithm)
unfolding algorithm_octets
algorithm_object k = parts_object (suc k) (identifier_octets one_two_three ∷ []) (lit< tt) (oid_object k one_two_three (lit< tt) algorithm_numbered, tt)

key_object : (k : ℕ) → IsDerObject (suc (suc (suc k))) (key_octets key)
unfolding key_octets algorithm_octets
key_object k = parts_object (suc (suc k)) (algorithm_octets algorithm ∷ bit_field_octets no_bits ∷ []) (lit< tt) (algorithm_object k, (no_bits_object (suc k), tt))

validity_object : (k : ℕ) → IsDerObject (suc (suc k)) (validity_octets (new_year 2025) (new_year 2026))
validity_object k = parts_object (suc k) (time_octets (new_year 2025) ∷ time_octets (new_year 2026) ∷ []) (lit< tt) (day_2025 k, (day_2026 k, tt))

-- what is signed, the algorithm and the signature
abbrev whole : List (List ℕ) → List (List ℕ)
whole signed = sequence_octets (flat_map (λ piece. piece) signed) ∷ algorithm_octets algorithm ∷ bit_field_octets no_bits ∷ []

whole_object : (signed : List (List ℕ)) → length (flat_map (λ piece. piece) signed) < 2 ^ 32 → length (flat_map (λ piece. piece) (whole signed)) < 2 ^ 32 → AllByRecursion (IsDerObject 48) signed
    → IsDerObject 50 (sequence_octets (flat_map (λ piece. piece) (whole signed)))
whole_object signed small most each = parts_object 49 (whole signed) most (parts_object 48 signed small each, (algorithm_object 47, (no_bits_object 48, tt)))

-- ---- fields

algorithm_in_range : IsAlgorithm algorithm
algorithm_in_range = record { identifier = algorithm_numbered; parameters = tt }

name_in_range : (letter : ℕ) → IsName (common_name letter)
name_in_range letter = (record { some = λ none. cc; each = (record { identifier = name_numbered; value = record { class = lit< tt; tag = lit< tt } }, tt); ordered = refl }, tt)

abbrev worked : ℕ → Name → Name → List Extension → Certificate
worked version issuer subject extensions = record plain_certificate { version = version; issuer = issuer; subject = subject; extensions = extensions }

in_range : (version : ℕ) (issuer subject : Name) (extensions : List Extension) → version ≤ 2 → IsName issuer → IsName subject → AreExtensions extensions → (extensions ≢ [] → version ≡ 2) → AreCertificateFields (worked version issuer subject extensions)
in_range version issuer subject extensions known from to numbered third = record {
  version = known;
  serial = record { shortest = refl; sign = refl };
  signature = algorithm_in_range;
  issuer = from;
  not_before = day_in_range 2025 (lit≤ tt) (lit≤ tt);
  not_after = day_in_range 2026 (lit≤ tt) (lit≤ tt);
  subject = to;
  key = record { algorithm = algorithm_in_range; key = refl };
  issuer_id = tt;
  subject_id = tt;
  extensions = numbered;
  algorithm = algorithm_in_range;
  signature_value = refl;
  issuer_id_from = λ some. absurd (some refl);
  subject_id_from = λ some. absurd (some refl);
  extensions_from = third;
}

-- ---- certificates of version 1

issued_object : IsDerObject 50 (certificate_octets issued_by_b)
unfolding certificate_octets tbs_certificate_octets algorithm_octets attribute_octets relative_name_octets name_octets key_octets
issued_object =
    let signed =
    number_octets (1 ∷ []) ∷ algorithm_octets algorithm ∷ name_octets (common_name 0x62) ∷ validity_octets (new_year 2025) (new_year 2026) ∷ name_octets []
    ∷ key_octets key ∷ [] in
    let each : AllByRecursion (IsDerObject 48) signed = (one_object 47, (algorithm_object 46, (name_object 44 0x62 (lit< tt), (validity_object 46, (empty_object 47, (key_object 45, tt)))))) in
    whole_object signed (lit< tt) (lit< tt) each

pub issued_item : IsCertificateItem (certificate_octets issued_by_b) issued_by_b
unfolding certificate_octets tbs_certificate_octets algorithm_octets attribute_octets relative_name_octets name_octets key_octets
issued_item = record {
  object = record { item = record { content = drop 2 (certificate_octets issued_by_b); small = lit≤ tt; spelled = refl }; object = issued_object };
  in_range = in_range 0 (common_name 0x62) [] [] (lit≤ tt) (name_in_range 0x62) tt tt (λ some. absurd (some refl));
  spelled = refl;
}

anchor_object : IsDerObject 50 (certificate_octets (anchor_named 0x64))
unfolding certificate_octets tbs_certificate_octets algorithm_octets attribute_octets relative_name_octets name_octets key_octets
anchor_object =
    let signed =
    number_octets (1 ∷ []) ∷ algorithm_octets algorithm ∷ name_octets [] ∷ validity_octets (new_year 2025) (new_year 2026) ∷ name_octets (common_name 0x64)
    ∷ key_octets key ∷ [] in
    let each : AllByRecursion (IsDerObject 48) signed = (one_object 47, (algorithm_object 46, (empty_object 47, (validity_object 46, (name_object 44 0x64 (lit< tt), (key_object 45, tt)))))) in
    whole_object signed (lit< tt) (lit< tt) each

pub anchor_item : IsCertificateItem (certificate_octets (anchor_named 0x64)) (anchor_named 0x64)
unfolding certificate_octets tbs_certificate_octets algorithm_octets attribute_octets relative_name_octets name_octets key_octets
anchor_item = record {
  object = record { item = record { content = drop 2 (certificate_octets (anchor_named 0x64)); small = lit≤ tt; spelled = refl }; object = anchor_object };
  in_range = in_range 0 [] (common_name 0x64) [] (lit≤ tt) tt (name_in_range 0x64) tt (λ some. absurd (some refl));
  spelled = refl;
}

-- ---- authorities

abbrev constraints : List ℕ → List Extension
constraints value = extension basic_constraints true value ∷ []

b_object : IsDerObject 50 (certificate_octets (authority 0x62 0x63 key unlimited))
unfolding certificate_octets tbs_certificate_octets algorithm_octets attribute_octets relative_name_octets name_octets key_octets extension_octets extensions_octets
b_object =
    let signed =
    version_octets 2 ∷ number_octets (1 ∷ []) ∷ algorithm_octets algorithm ∷ name_octets (common_name 0x63) ∷ validity_octets (new_year 2025) (new_year 2026)
    ∷ name_octets (common_name 0x62) ∷ key_octets key ∷ tagged_extensions_octets 3 (constraints unlimited) ∷ [] in
    let each : AllByRecursion (IsDerObject 48) signed = (context_object 47 0 (number_octets (2 ∷ [])) (lit< tt) (lit< tt), (one_object 47, (algorithm_object 46, (name_object 44 0x63 (lit< tt), (validity_object 46, (name_object 44 0x62 (lit< tt), (key_object 45, (context_object 47 3 (extensions_octets (constraints unlimited)) (lit< tt) (lit< tt), tt)))))))) in
    whole_object signed (lit< tt) (lit< tt) each

pub b_item : IsCertificateItem (certificate_octets (authority 0x62 0x63 key unlimited)) (authority 0x62 0x63 key unlimited)
unfolding certificate_octets tbs_certificate_octets algorithm_octets attribute_octets relative_name_octets name_octets key_octets extension_octets extensions_octets
b_item = record {
  object = record { item = record { content = drop 2 (certificate_octets (authority 0x62 0x63 key unlimited)); small = lit≤ tt; spelled = refl }; object = b_object };
  in_range = in_range 2 (common_name 0x63) (common_name 0x62) (constraints unlimited) (lit≤ tt) (name_in_range 0x63) (name_in_range 0x62) (constraints_numbered, tt) (λ some. refl);
  spelled = refl;
}

c_object : IsDerObject 50 (certificate_octets (authority 0x63 0x64 key (limited_to 0)))
unfolding certificate_octets tbs_certificate_octets algorithm_octets attribute_octets relative_name_octets name_octets key_octets extension_octets extensions_octets
c_object =
    let signed =
    version_octets 2 ∷ number_octets (1 ∷ []) ∷ algorithm_octets algorithm ∷ name_octets (common_name 0x64) ∷ validity_octets (new_year 2025) (new_year 2026)
    ∷ name_octets (common_name 0x63) ∷ key_octets key ∷ tagged_extensions_octets 3 (constraints (limited_to 0)) ∷ [] in
    let each : AllByRecursion (IsDerObject 48) signed = (context_object 47 0 (number_octets (2 ∷ [])) (lit< tt) (lit< tt), (one_object 47, (algorithm_object 46, (name_object 44 0x64 (lit< tt), (validity_object 46, (name_object 44 0x63 (lit< tt), (key_object 45, (context_object 47 3 (extensions_octets (constraints (limited_to 0))) (lit< tt) (lit< tt), tt)))))))) in
    whole_object signed (lit< tt) (lit< tt) each

pub c_item : IsCertificateItem (certificate_octets (authority 0x63 0x64 key (limited_to 0))) (authority 0x63 0x64 key (limited_to 0))
unfolding certificate_octets tbs_certificate_octets algorithm_octets attribute_octets relative_name_octets name_octets key_octets extension_octets extensions_octets
c_item = record {
  object = record { item = record { content = drop 2 (certificate_octets (authority 0x63 0x64 key (limited_to 0))); small = lit≤ tt; spelled = refl }; object = c_object };
  in_range = in_range 2 (common_name 0x64) (common_name 0x63) (constraints (limited_to 0)) (lit≤ tt) (name_in_range 0x64) (name_in_range 0x63) (constraints_numbered, tt) (λ some. refl);
  spelled = refl;
}
