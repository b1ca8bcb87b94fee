-- The worked parts are in range, and the worked times are read.
use Rattle.std.proofs.Common.{◌≡◌, ◌<◌, ◌^◌, ℕ, List, [], ◌∷◌, length, refl, arith, lit<}
use Rattle.std.specs.Int.Digits.{AllBelowBase}
use Rattle.std.proofs.lemmas.Int.{ints}
use Rattle.asn1_oid.specs.Identifier.{IsOidContent, subidentifier_octets}
use Rattle.der_tree.specs.Time.{IsMoment}
use Rattle.cert_model.specs.Examples.{algorithm, common_name, key, new_year, one_two_three}
use Rattle.cert_model.specs.Octets.{algorithm_octets, attribute_octets, relative_name_octets, name_octets, key_octets, moment_in}
use Rattle.cert_model.specs.Range.{IsAlgorithm, IsKey, IsName, IsTimeField}
use Rattle.x509_time.specs.Examples.{period_octets, start_octets}
use Rattle.laws_x509.proofs.Below.{below_tested}

pub start_below : AllBelowBase 256 start_octets
start_below = below_tested start_octets refl

pub period_below : AllBelowBase 256 period_octets
period_below = below_tested period_octets refl

-- 2.5.4.3
named : IsOidContent (0x55 ∷ 0x04 ∷ 0x03 ∷ [])
unfolding subidentifier_octets
named = record { subidentifiers = 85 ∷ 4 ∷ 3 ∷ []; some = λ e. cc; spelled = refl }

pub name_in_range : IsName (common_name 0x62)
unfolding attribute_octets
name_in_range = (record { some = λ e. cc; each = (record { identifier = named; value = record { class = lit< tt; tag = lit< tt } }, tt); ordered = refl }, tt)

pub algorithm_short : length (algorithm_octets algorithm) < 2 ^ 64
unfolding algorithm_octets
algorithm_short = lit< tt

pub name_short : length (name_octets (common_name 0x62)) < 2 ^ 64
unfolding attribute_octets relative_name_octets name_octets
name_short = lit< tt

pub key_short : length (key_octets key) < 2 ^ 64
unfolding algorithm_octets key_octets
key_short = lit< tt

numbered : IsOidContent one_two_three
unfolding subidentifier_octets
numbered = record { subidentifiers = 42 ∷ 3 ∷ []; some = λ e. cc; spelled = refl }

pub algorithm_in_range : IsAlgorithm algorithm
algorithm_in_range = record { identifier = numbered; parameters = tt }

pub key_in_range : IsKey key
key_in_range = record { algorithm = algorithm_in_range; key = refl }

-- the first of January of 2025
first_day : IsMoment (moment_in (new_year 2025))
first_day = (((omega (arith, ints), omega (arith, ints)), (omega (arith, ints), omega (arith, ints)), (omega (arith, ints), omega (arith, ints))), ((omega (arith, ints), omega (arith, ints)), (omega (arith, ints), omega (arith, ints)), (omega (arith, ints), omega (arith, ints)), (omega (arith, ints), omega (arith, ints))))

pub day_in_range : IsTimeField (new_year 2025)
day_in_range = record { first = omega (arith, ints); last = omega (arith, ints); real = first_day; whole = refl }
