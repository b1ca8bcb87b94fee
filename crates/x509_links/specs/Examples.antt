-- A strict list with extensions, and its octets, written out by hand: they try the definitions, not the code.
use Rattle.std.specs.Prelude.{ℕ, pos, false, List, [], ◌∷◌, Some}
use Rattle.std.proofs.Common.{arith}
use Rattle.std.proofs.Math.Dec.{lit<, lit≤}
use Rattle.std.proofs.lemmas.Int.{ints}
use Rattle.jiff_core.specs.Calendar.{IsYear}
use Rattle.jiff_core.specs.declared.civil.date.Date.{Date}
use Rattle.jiff_core.specs.declared.civil.datetime.DateTime.{DateTime}
use Rattle.jiff_core.specs.declared.civil.time.Time.{Time}
use Rattle.cert_model.specs.Fields.{Extension, RevocationList}
use Rattle.cert_model.specs.Examples.{new_year, revoking}

-- affiliationChanged, as the reason code (2.5.29.21) of an entry
abbrev pub reason : Extension
reason = record { identifier = 0x55 ∷ 0x1d ∷ 0x15 ∷ []; critical = false; value = 0x0a ∷ 0x01 ∷ 0x03 ∷ [] }

-- 3, as the number of a list (2.5.29.20)
abbrev pub number : Extension
number = record { identifier = 0x55 ∷ 0x1d ∷ 0x14 ∷ []; critical = false; value = 0x02 ∷ 0x01 ∷ 0x03 ∷ [] }

-- a list of version 2 with one entry, each of which has an extension
abbrev pub revoking_with_reason : RevocationList
revoking_with_reason = record revoking {
  version = Some 1;
  entries = record { serial = 1 ∷ []; date = new_year 2025; extensions = reason ∷ [] } ∷ [];
  extensions = number ∷ [];
}

abbrev pub octets_of_revoking_with_reason : List ℕ
octets_of_revoking_with_reason =
    0x30 ∷ 0x68 ∷ 0x30 ∷ 0x5d ∷ 0x02 ∷ 0x01 ∷ 0x01 ∷ 0x30 ∷ 0x04 ∷ 0x06 ∷ 0x02 ∷ 0x2a ∷ 0x03 ∷ 0x30 ∷ 0x00 ∷ 0x17 ∷ 0x0d ∷ 0x32 ∷ 0x35 ∷ 0x30 ∷ 0x31 ∷
    0x30 ∷ 0x31 ∷ 0x30 ∷ 0x30 ∷ 0x30 ∷ 0x30 ∷ 0x30 ∷ 0x30 ∷ 0x5a ∷ 0x17 ∷ 0x0d ∷ 0x32 ∷ 0x36 ∷ 0x30 ∷ 0x31 ∷ 0x30 ∷ 0x31 ∷ 0x30 ∷ 0x30 ∷ 0x30 ∷ 0x30 ∷
    0x30 ∷ 0x30 ∷ 0x5a ∷ 0x30 ∷ 0x22 ∷ 0x30 ∷ 0x20 ∷ 0x02 ∷ 0x01 ∷ 0x01 ∷ 0x17 ∷ 0x0d ∷ 0x32 ∷ 0x35 ∷ 0x30 ∷ 0x31 ∷ 0x30 ∷ 0x31 ∷ 0x30 ∷ 0x30 ∷ 0x30 ∷
    0x30 ∷ 0x30 ∷ 0x30 ∷ 0x5a ∷ 0x30 ∷ 0x0c ∷ 0x30 ∷ 0x0a ∷ 0x06 ∷ 0x03 ∷ 0x55 ∷ 0x1d ∷ 0x15 ∷ 0x04 ∷ 0x03 ∷ 0x0a ∷ 0x01 ∷ 0x03 ∷ 0xa0 ∷ 0x0e ∷ 0x30 ∷
    0x0c ∷ 0x30 ∷ 0x0a ∷ 0x06 ∷ 0x03 ∷ 0x55 ∷ 0x1d ∷ 0x14 ∷ 0x04 ∷ 0x03 ∷ 0x02 ∷ 0x01 ∷ 0x03 ∷ 0x30 ∷ 0x04 ∷ 0x06 ∷ 0x02 ∷ 0x2a ∷ 0x03 ∷ 0x03 ∷ 0x01 ∷
    0x00 ∷ []

-- the first of January 2025 at midnight, as a date and time of the calendar
pub is_year : IsYear (pos 2025)
is_year = (omega (arith, ints), omega (arith, ints))

abbrev pub january_first : Date
january_first = record { year = pos 2025; month = 1; day = 1; year_in = is_year; month_in = (lit≤ tt, lit≤ tt); day_in = (lit≤ tt, lit≤ tt) }

abbrev pub midnight : Time
midnight = record {
  hour = 0;
  minute = 0;
  second = 0;
  subsec_nanosecond = 0;
  hour_in = lit< tt;
  minute_in = lit< tt;
  second_in = lit< tt;
  subsec_in = lit< tt;
}

abbrev pub first_of_2025 : DateTime
first_of_2025 = record { date = january_first; time = midnight }
