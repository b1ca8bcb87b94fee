-- Times with their octets, written out by hand: they try the laws' definitions, not the code.
use Rattle.std.specs.Prelude.{ℕ, None, List, [], ◌∷◌}
use Rattle.asn1_times.specs.declared.datetime.ASN1DateTime.{ASN1DateTime}
use Rattle.asn1_times.specs.declared.datetime.ASN1TimeZone.TheVariants as zones

-- the second of January, 03:04:05, of a year
abbrev pub second_of_january : ℕ → ASN1DateTime
second_of_january year = record { year = year; month = 1; day = 2; hour = 3; minute = 4; second = 5; millisecond = None; tz = zones.Z }

-- 0102030405Z
abbrev pub after_year : List ℕ
after_year = 0x30 ∷ 0x31 ∷ 0x30 ∷ 0x32 ∷ 0x30 ∷ 0x33 ∷ 0x30 ∷ 0x34 ∷ 0x30 ∷ 0x35 ∷ 0x5a ∷ []

abbrev pub utc_time : ASN1DateTime
utc_time = second_of_january 25

abbrev pub utc_content : List ℕ
utc_content = 0x32 ∷ 0x35 ∷ after_year

abbrev pub general_time : ASN1DateTime
general_time = second_of_january 2025

abbrev pub general_content : List ℕ
general_content = 0x32 ∷ 0x30 ∷ 0x32 ∷ 0x35 ∷ after_year
