-- The worked integer is the shortest one, and the worked times are times.
use Rattle.std.proofs.Common.{ℕ, [], ◌∷◌, refl, arith, inl}
use Rattle.std.specs.Int.Digits.{AllBelowBase}
use Rattle.asn1_times.specs.Fields.{IsClock}
use Rattle.asn1_times.specs.GeneralizedTimes.{GeneralizedMeans}
use Rattle.asn1_times.specs.UtcTimes.{IsUtcTime, UtcMeans}
use Rattle.asn1_traits.specs.Integers.{IsShortest}
use Rattle.laws_asn1.specs.Times.{general_content, general_time, second_of_january, utc_content, utc_time}

pub octets : AllBelowBase 256 (0x00 ∷ 0x80 ∷ [])
octets = (omega arith, (omega arith, tt))

pub shortest : IsShortest (0x00 ∷ 0x80 ∷ [])
shortest = (λ both. let small = both.1 in omega (arith, small), λ both. let first = both.0 in omega (arith, first))

clock : (year : ℕ) → IsClock (second_of_january year)
clock year = ((omega arith, omega arith), (omega arith, omega arith), omega arith, omega arith, omega arith)

pub utc_fields : IsUtcTime utc_time
utc_fields = record { year = omega arith; clock = clock 25; whole = refl; zone = tt }

pub utc_means : UtcMeans utc_content utc_time
utc_means = record {
  fields = utc_fields;
  spelled = record { seconds = 0x30 ∷ 0x35 ∷ []; zone = 0x5a ∷ []; seconds_spelled = inl refl; zone_spelled = inl refl; octets = refl };
}

pub general_means : GeneralizedMeans general_content general_time
general_means = record {
  fields = record { year = omega arith; clock = clock 2025; fraction = tt; zone = tt };
  spelled = record { seconds = 0x30 ∷ 0x35 ∷ []; zone = 0x5a ∷ []; seconds_spelled = inl refl; zone_spelled = inl refl; octets = refl };
}
