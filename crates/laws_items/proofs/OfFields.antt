-- The worked fields are in range, and their octets few.
use Rattle.std.specs.Prelude.{◌&&◌}
use Rattle.std.proofs.Common.{◌≡◌, refl, arith, ℕ, ◌<◌, ◌≤◌, ◌^◌, nat_lt, Bool, true, false, List, [], ◌∷◌, length, lit<, lit≤, drop}
use Rattle.std.specs.Int.Digits.{AllBelowBase}
use Rattle.std.specs.List.{list_all}
use Rattle.std.proofs.lemmas.Bool.{ltb-true}
use Rattle.std.proofs.lemmas.Int.{ints}
use Rattle.asn1_oid.specs.Identifier.{IsOidContent, subidentifier_octets}
use Rattle.der_tree.specs.Time.{IsMoment}
use Rattle.cert_framing.specs.Framing.{IsItem}
use Rattle.cert_model.specs.Examples.{algorithm, basic_constraints, constrained, new_year, octets_of_constrained, octets_of_revoking, one_two_three, revoking}
use Rattle.cert_model.specs.Octets.{algorithm_octets, certificate_octets, entry_octets, extension_octets, extensions_octets, key_octets, list_octets, moment_in, name_octets, tbs_cert_list_octets, tbs_certificate_octets}
use Rattle.cert_model.specs.Range.{AreCertificateFields, AreListFields, IsAlgorithm, IsTimeField}

two_true : (a b : Bool) → (a && b) ≡ true → (a ≡ true) × (b ≡ true)
two_true true b is = (refl, is)
two_true false b is = cc

below_tested : (s : List ℕ) → list_all (λ d. nat_lt d 256) s ≡ true → AllBelowBase 256 s
below_tested [] is = tt
below_tested (x ∷ s) is = let both = two_true (nat_lt x 256) (list_all (λ d. nat_lt d 256) s) is in (ltb-true x 256 both.0, below_tested s both.1)

-- ---- octets

pub certificate_below : AllBelowBase 256 (certificate_octets constrained)
unfolding certificate_octets tbs_certificate_octets algorithm_octets name_octets key_octets extension_octets extensions_octets
certificate_below = below_tested octets_of_constrained refl

pub certificate_short : length (certificate_octets constrained) < 2 ^ 64
unfolding certificate_octets tbs_certificate_octets algorithm_octets name_octets key_octets extension_octets extensions_octets
certificate_short = lit< tt

pub list_below : AllBelowBase 256 (list_octets revoking)
unfolding list_octets tbs_cert_list_octets algorithm_octets name_octets entry_octets
list_below = below_tested octets_of_revoking refl

pub list_short : length (list_octets revoking) < 2 ^ 64
unfolding list_octets tbs_cert_list_octets algorithm_octets name_octets entry_octets
list_short = lit< tt

pub list_is_item : IsItem 4_294_967_295 (list_octets revoking)
unfolding list_octets tbs_cert_list_octets algorithm_octets name_octets entry_octets
list_is_item = record { content = drop 2 octets_of_revoking; small = lit≤ tt; spelled = refl }

-- ---- fields

-- 1.2.3 and 2.5.29.19
numbered : IsOidContent one_two_three
unfolding subidentifier_octets
numbered = record { subidentifiers = 42 ∷ 3 ∷ []; some = λ e. cc; spelled = refl }

constraints_numbered : IsOidContent basic_constraints
unfolding subidentifier_octets
constraints_numbered = record { subidentifiers = 85 ∷ 29 ∷ 19 ∷ []; some = λ e. cc; spelled = refl }

algorithm_in_range : IsAlgorithm algorithm
algorithm_in_range = record { identifier = numbered; parameters = tt }

-- the year is 2025 or 2026
first_day : (year : ℕ) → 2025 ≤ year → year ≤ 2026 → IsMoment (moment_in (new_year year))
first_day year from to = (((omega (arith, ints), omega (arith, ints)), (omega (arith, ints), omega (arith, ints)), (omega (arith, ints), omega (arith, ints))), ((omega (arith, ints), omega (arith, ints)), (omega (arith, ints), omega (arith, ints)), (omega (arith, ints), omega (arith, ints)), (omega (arith, ints), omega (arith, ints))))

day_in_range : (year : ℕ) → 2025 ≤ year → year ≤ 2026 → IsTimeField (new_year year)
day_in_range year from to = record { first = omega (arith, ints); last = omega (arith, ints); real = first_day year from to; whole = refl }

pub certificate_in_range : AreCertificateFields constrained
certificate_in_range = record {
  version = lit≤ tt;
  serial = record { shortest = refl; sign = refl };
  signature = algorithm_in_range;
  issuer = tt;
  not_before = day_in_range 2025 (lit≤ tt) (lit≤ tt);
  not_after = day_in_range 2026 (lit≤ tt) (lit≤ tt);
  subject = tt;
  key = record { algorithm = algorithm_in_range; key = refl };
  issuer_id = tt;
  subject_id = tt;
  extensions = (constraints_numbered, tt);
  algorithm = algorithm_in_range;
  signature_value = refl;
  issuer_id_from = λ some. absurd (some refl);
  subject_id_from = λ some. absurd (some refl);
  extensions_from = λ some. refl;
}

pub list_in_range : AreListFields revoking
list_in_range = record {
  version = tt;
  signature = algorithm_in_range;
  issuer = tt;
  this_update = day_in_range 2025 (lit≤ tt) (lit≤ tt);
  next_update = day_in_range 2026 (lit≤ tt) (lit≤ tt);
  entries = (
    record {
      serial = record { shortest = refl; sign = refl };
      date = day_in_range 2025 (lit≤ tt) (lit≤ tt);
      extensions = tt;
      extensions_from = λ some. absurd (some refl);
    },
    tt,
  );
  extensions = tt;
  algorithm = algorithm_in_range;
  signature_value = refl;
  extensions_from = λ some. absurd (some refl);
}
