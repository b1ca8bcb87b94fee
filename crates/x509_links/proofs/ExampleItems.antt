-- Worked items are strict: DER objects with fields in range.
use Rattle.std.specs.Prelude.{◌&&◌}
use Rattle.std.proofs.Common.{◌≡◌, ◌≢◌, refl, sym, ap, subst, arith, ℕ, suc, ◌<◌, ◌≤◌, ◌^◌, nat_lt, pos, Bool, true, false, List, [], ◌∷◌, ◌++◌, length, Some, None, lit<, lit≤, flat_map, drop}
use Rattle.std.specs.Int.Digits.{AllBelowBase}
use Rattle.std.specs.List.{AllByRecursion, list_all}
use Rattle.std.proofs.lemmas.Bool.{ltb-true}
use Rattle.std.proofs.lemmas.Int.{ints}
use Rattle.asn1_core.specs.Elements.{Element, IsElement, element_octets}
use Rattle.asn1_oid.specs.Identifier.{IsOidContent}
use Rattle.asn1_oid.specs.Reading.{is_strict, is_strict_after}
use Rattle.asn1_oid.proofs.ReadWritten.{strict_is_content}
use Rattle.der_tree.specs.Object.{IsCut, AreAll, IsDerObject}
use Rattle.der_tree.specs.Table.{Stands, bit_string, oid, sequence, plain, raw, integer, octet_string, utc_time}
use Rattle.der_tree.specs.Time.{Moment, IsMoment, IsUtcTime}
use Rattle.cert_model.specs.Class.{IsCertificateItem, IsListItem}
use Rattle.cert_model.specs.Examples.{one_two_three, algorithm, no_bits, key, new_year, basic_constraints, constrained, octets_of_constrained}
use Rattle.cert_model.specs.Fields.{Algorithm, Bits}
use Rattle.cert_model.specs.Octets.{primitive_octets, sequence_octets, explicit_octets, number_octets, identifier_octets, bit_field_octets, algorithm_octets, name_octets, key_octets, moment_in, time_octets, validity_octets, version_octets, extension_octets, extensions_octets, tagged_extensions_octets, tbs_certificate_octets, certificate_octets, entry_octets, entries_octets, tbs_cert_list_octets, list_octets}
use Rattle.cert_model.specs.Range.{IsNumber, IsAlgorithm, IsKey, IsTimeField, AreCertificateFields, AreListFields, IsEntry}
use Rattle.x509_links.specs.Examples.{reason, number, revoking_with_reason, octets_of_revoking_with_reason}

-- octets that are tested to be octets
two_true : (a b : Bool) → (a && b) ≡ true → (a ≡ true) × (b ≡ true)
two_true true b is = (refl, is)
two_true false b is = cc

below_tested : (s : List ℕ) → list_all (λ d. nat_lt d 256) s ≡ true → AllBelowBase 256 s
below_tested [] is = tt
below_tested (x ∷ s) is = let both = two_true (nat_lt x 256) (list_all (λ d. nat_lt d 256) s) is in (ltb-true x 256 both.0, below_tested s both.1)

pub constrained_below : AllBelowBase 256 octets_of_constrained
constrained_below = below_tested octets_of_constrained refl

pub revoking_below : AllBelowBase 256 octets_of_revoking_with_reason
revoking_below = below_tested octets_of_revoking_with_reason refl

-- ---- identifiers and times

numbered : IsOidContent one_two_three
unfolding is_strict_after
numbered = strict_is_content one_two_three (below_tested one_two_three refl) refl

constraints_numbered : IsOidContent basic_constraints
unfolding is_strict_after
constraints_numbered = strict_is_content basic_constraints (below_tested basic_constraints refl) refl

reason_numbered : IsOidContent reason.identifier
unfolding is_strict_after
reason_numbered = strict_is_content reason.identifier (below_tested reason.identifier refl) refl

number_numbered : IsOidContent number.identifier
unfolding is_strict_after
number_numbered = strict_is_content number.identifier (below_tested number.identifier refl) refl

-- the year is 2025 or 2026
first_day : (year : ℕ) → 2025 ≤ year → year ≤ 2026 → IsMoment (moment_in (new_year year))
first_day year from to = (((omega (arith, ints), omega (arith, ints)), (omega (arith, ints), omega (arith, ints)), (omega (arith, ints), omega (arith, ints))), ((omega (arith, ints), omega (arith, ints)), (omega (arith, ints), omega (arith, ints)), (omega (arith, ints), omega (arith, ints)), (omega (arith, ints), omega (arith, ints))))

pub day_in_range : (year : ℕ) → 2025 ≤ year → year ≤ 2026 → IsTimeField (new_year year)
day_in_range year from to = record { first = omega (arith, ints); last = omega (arith, ints); real = first_day year from to; whole = refl }

-- ---- objects

object : (k : ℕ) (e : Element) → e.class < 4 → e.tag < 2 ^ 32 → length e.content < 2 ^ 32 → Stands (AreAll (IsDerObject k)) e → IsDerObject (suc k) (element_octets e)
unfolding IsDerObject
object k e class tag small stands = (e, record { in_range = record { class = class; tag = tag; size = omega (arith, small) }; size = omega (arith, small); octets = refl }, stands)

-- a sequence of objects
parts_object : (k : ℕ) (pieces : List (List ℕ)) → length (flat_map (λ piece. piece) pieces) < 2 ^ 32 → AllByRecursion (IsDerObject k) pieces → IsDerObject (suc k) (sequence_octets (flat_map (λ piece. piece) pieces))
parts_object k pieces small each =
    object k (record { class = 0; constructed = true; tag = 16; content = flat_map (λ piece. piece) pieces }) (lit< tt) (lit< tt) small
    (sequence (record { class = refl; constructed = refl; tag = refl }) (pieces, each, refl))

oid_object : (k : ℕ) (id : List ℕ) → length id < 2 ^ 32 → IsOidContent id → IsDerObject (suc k) (identifier_octets id)
oid_object k id small is = object k (record { class = 0; constructed = false; tag = 6; content = id }) (lit< tt) (lit< tt) small (oid (record { class = refl; constructed = refl; tag = refl }) is)

one_object : (k : ℕ) → IsDerObject (suc k) (number_octets (1 ∷ []))
one_object k = object k (record { class = 0; constructed = false; tag = 2; content = 1 ∷ [] }) (lit< tt) (lit< tt) (lit< tt) (plain integer (record { class = refl; constructed = refl; tag = refl }) refl)

no_bits_object : (k : ℕ) → IsDerObject (suc k) (bit_field_octets no_bits)
no_bits_object k = object k (record { class = 0; constructed = false; tag = 3; content = 0 ∷ [] }) (lit< tt) (lit< tt) (lit< tt) (bit_string (record { class = refl; constructed = refl; tag = refl }) refl)

-- nothing is asked of what is context-specific
context_object : (k n : ℕ) (content : List ℕ) → n < 2 ^ 32 → length content < 2 ^ 32 → IsDerObject (suc k) (explicit_octets n content)
context_object k n content tag small =
    object k (record { class = 2; constructed = true; tag = n; content = content }) (lit< tt) tag small (raw (λ universal. let two : 2 ≡ 0 = universal in absurd (omega (arith, two))))

day_2025 : (k : ℕ) → IsDerObject (suc k) (time_octets (new_year 2025))
day_2025 k =
    object k (record { class = 0; constructed = false; tag = 23; content = 0x32 ∷ 0x35 ∷ 0x30 ∷ 0x31 ∷ 0x30 ∷ 0x31 ∷ 0x30 ∷ 0x30 ∷ 0x30 ∷ 0x30 ∷ 0x30 ∷ 0x30 ∷ 0x5a ∷ [] })
    (lit< tt) (lit< tt) (lit< tt) (plain utc_time (record { class = refl; constructed = refl; tag = refl })
    (record { moment = moment_in (new_year 2025); is_moment = first_day 2025 (lit≤ tt) (lit≤ tt); first = lit≤ tt; last = lit< tt; octets = refl }))

day_2026 : (k : ℕ) → IsDerObject (suc k) (time_octets (new_year 2026))
day_2026 k =
    object k (record { class = 0; constructed = false; tag = 23; content = 0x32 ∷ 0x36 ∷ 0x30 ∷ 0x31 ∷ 0x30 ∷ 0x31 ∷ 0x30 ∷ 0x30 ∷ 0x30 ∷ 0x30 ∷ 0x30 ∷ 0x30 ∷ 0x5a ∷ [] })
    (lit< tt) (lit< tt) (lit< tt) (plain utc_time (record { class = refl; constructed = refl; tag = refl })
    (record { moment = moment_in (new_year 2026); is_moment = first_day 2026 (lit≤ tt) (lit≤ tt); first = lit≤ tt; last = lit< tt; octets = refl }))

empty_object : (k : ℕ) → IsDerObject (suc k) (name_octets [])
unfolding name_octets
empty_object k = parts_object k [] (lit< tt) tt

algorithm_object : (k : ℕ) → IsDerObject (suc (suc k)) (algorithm_octets algorithm)
unfolding algorithm_octets
algorithm_object k = parts_object (suc k) (identifier_octets one_two_three ∷ []) (lit< tt) (oid_object k one_two_three (lit< tt) numbered, tt)

key_object : (k : ℕ) → IsDerObject (suc (suc (suc k))) (key_octets key)
unfolding key_octets algorithm_octets
key_object k = parts_object (suc (suc k)) (algorithm_octets algorithm ∷ bit_field_octets no_bits ∷ []) (lit< tt) (algorithm_object k, (no_bits_object (suc k), tt))

validity_object : (k : ℕ) → IsDerObject (suc (suc k)) (validity_octets (new_year 2025) (new_year 2026))
validity_object k = parts_object (suc k) (time_octets (new_year 2025) ∷ time_octets (new_year 2026) ∷ []) (lit< tt) (day_2025 k, (day_2026 k, tt))

-- ---- a certificate

constrained_object : IsDerObject 50 octets_of_constrained
unfolding certificate_octets tbs_certificate_octets algorithm_octets name_octets key_octets extension_octets extensions_octets
constrained_object =
    let signed =
    version_octets 2 ∷ number_octets (1 ∷ []) ∷ algorithm_octets algorithm ∷ name_octets [] ∷ validity_octets (new_year 2025) (new_year 2026) ∷ name_octets []
    ∷ key_octets key ∷ tagged_extensions_octets 3 constrained.extensions ∷ [] in
    let each : AllByRecursion (IsDerObject 48) signed = (context_object 47 0 (number_octets (2 ∷ [])) (lit< tt) (lit< tt), (one_object 47, (algorithm_object 46, (empty_object 47, (validity_object 46, (empty_object 47, (key_object 45, (context_object 47 3 (extensions_octets constrained.extensions) (lit< tt) (lit< tt), tt)))))))) in
    parts_object 49 (sequence_octets (flat_map (λ piece. piece) signed) ∷ algorithm_octets algorithm ∷ bit_field_octets no_bits ∷ []) (lit< tt) (parts_object 48 signed (lit< tt) each, (algorithm_object 47, (no_bits_object 48, tt)))

algorithm_in_range : IsAlgorithm algorithm
algorithm_in_range = record { identifier = numbered; parameters = tt }

constrained_in_range : AreCertificateFields constrained
constrained_in_range = record {
  version = lit≤ tt;
  serial = record { shortest = refl; sign = refl };
  signature = algorithm_in_range;
  issuer = tt;
  not_before = day_in_range 2025 (lit≤ tt) (lit≤ tt);
  not_after = day_in_range 2026 (lit≤ tt) (lit≤ tt);
  subject = tt;
  key = record { algorithm = algorithm_in_range; key = refl };
  issuer_id = tt;
  subject_id = tt;
  extensions = (constraints_numbered, tt);
  algorithm = algorithm_in_range;
  signature_value = refl;
  issuer_id_from = λ some. absurd (some refl);
  subject_id_from = λ some. absurd (some refl);
  extensions_from = λ some. refl;
}

constrained_spelled : certificate_octets constrained ≡ octets_of_constrained
unfolding certificate_octets tbs_certificate_octets algorithm_octets name_octets key_octets extension_octets extensions_octets
constrained_spelled = refl

pub constrained_item : IsCertificateItem octets_of_constrained constrained
constrained_item = record {
  object = record { item = record { content = drop 2 octets_of_constrained; small = lit≤ tt; spelled = refl }; object = constrained_object };
  in_range = constrained_in_range;
  spelled = constrained_spelled;
}

-- ---- a list

reason_value_object : (k : ℕ) → IsDerObject (suc k) (primitive_octets 4 reason.value)
reason_value_object k =
    object k (record { class = 0; constructed = false; tag = 4; content = reason.value }) (lit< tt) (lit< tt) (lit< tt) (plain octet_string (record { class = refl; constructed = refl; tag = refl }) tt)

-- an extension of an entry: here the object goes down to its value
reason_object : (k : ℕ) → IsDerObject (suc (suc (suc k))) (extensions_octets (reason ∷ []))
unfolding extension_octets extensions_octets
reason_object k =
    parts_object (suc (suc k)) (extension_octets reason ∷ []) (lit< tt) (
      parts_object (suc k) (identifier_octets reason.identifier ∷ primitive_octets 4 reason.value ∷ []) (lit< tt) (oid_object k reason.identifier (lit< tt) reason_numbered, (reason_value_object k, tt)),
      tt,
    )

entry_object : (k : ℕ) → IsDerObject (suc (suc (suc (suc k)))) (entry_octets (record { serial = 1 ∷ []; date = new_year 2025; extensions = reason ∷ [] }))
unfolding entry_octets extension_octets extensions_octets
entry_object k =
    parts_object (suc (suc (suc k))) (number_octets (1 ∷ []) ∷ time_octets (new_year 2025) ∷ extensions_octets (reason ∷ []) ∷ []) (lit< tt)
    (one_object (suc (suc k)), (day_2025 (suc (suc k)), (reason_object k, tt)))

revoking_object : IsDerObject 50 octets_of_revoking_with_reason
unfolding list_octets tbs_cert_list_octets algorithm_octets name_octets entry_octets extension_octets extensions_octets
revoking_object =
    let entry = entry_octets (record { serial = 1 ∷ []; date = new_year 2025; extensions = reason ∷ [] }) in
    let signed =
    number_octets (1 ∷ []) ∷ algorithm_octets algorithm ∷ name_octets [] ∷ time_octets (new_year 2025) ∷ time_octets (new_year 2026)
    ∷ sequence_octets (flat_map (λ piece. piece) (entry ∷ [])) ∷ tagged_extensions_octets 0 (number ∷ []) ∷ [] in
    let each : AllByRecursion (IsDerObject 48) signed = (one_object 47, (algorithm_object 46, (empty_object 47, (day_2025 47, (day_2026 47, (parts_object 47 (entry ∷ []) (lit< tt) (entry_object 43, tt), (context_object 47 0 (extensions_octets (number ∷ [])) (lit< tt) (lit< tt), tt))))))) in
    parts_object 49 (sequence_octets (flat_map (λ piece. piece) signed) ∷ algorithm_octets algorithm ∷ bit_field_octets no_bits ∷ []) (lit< tt) (parts_object 48 signed (lit< tt) each, (algorithm_object 47, (no_bits_object 48, tt)))

revoking_in_range : AreListFields revoking_with_reason
revoking_in_range = record {
  version = refl;
  signature = algorithm_in_range;
  issuer = tt;
  this_update = day_in_range 2025 (lit≤ tt) (lit≤ tt);
  next_update = day_in_range 2026 (lit≤ tt) (lit≤ tt);
  entries = (
    record {
      serial = record { shortest = refl; sign = refl };
      date = day_in_range 2025 (lit≤ tt) (lit≤ tt);
      extensions = (reason_numbered, tt);
      extensions_from = λ some. refl;
    },
    tt,
  );
  extensions = (number_numbered, tt);
  algorithm = algorithm_in_range;
  signature_value = refl;
  extensions_from = λ some. refl;
}

pub revoking_item : IsListItem octets_of_revoking_with_reason revoking_with_reason
unfolding list_octets tbs_cert_list_octets algorithm_octets name_octets entry_octets extension_octets extensions_octets
revoking_item = record {
  object = record { item = record { content = drop 2 octets_of_revoking_with_reason; small = lit≤ tt; spelled = refl }; object = revoking_object };
  in_range = revoking_in_range;
  spelled = refl;
}
