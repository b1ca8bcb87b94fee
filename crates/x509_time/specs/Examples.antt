-- Octets and what they are, written out by hand: they try the relations, not the code.
use Rattle.std.specs.Prelude.{ℕ, pos, List, [], ◌∷◌, ◌++◌, false}
use Rattle.x509_time.specs.Times.{Time, Period}

-- 250101000000Z: when 2025 begins
abbrev pub start_octets : List ℕ
start_octets = 0x17 ∷ 0x0d ∷ 0x32 ∷ 0x35 ∷ 0x30 ∷ 0x31 ∷ 0x30 ∷ 0x31 ∷ 0x30 ∷ 0x30 ∷ 0x30 ∷ 0x30 ∷ 0x30 ∷ 0x30 ∷ 0x5a ∷ []

abbrev pub start : Time
start = record { nanoseconds = pos 1_735_689_600_000_000_000; generalized = false }

-- 260101000000Z: when 2026 begins
abbrev pub end_octets : List ℕ
end_octets = 0x17 ∷ 0x0d ∷ 0x32 ∷ 0x36 ∷ 0x30 ∷ 0x31 ∷ 0x30 ∷ 0x31 ∷ 0x30 ∷ 0x30 ∷ 0x30 ∷ 0x30 ∷ 0x30 ∷ 0x30 ∷ 0x5a ∷ []

abbrev pub end : Time
end = record { nanoseconds = pos 1_767_225_600_000_000_000; generalized = false }

-- from the one to the other
abbrev pub period_octets : List ℕ
period_octets = 0x30 ∷ 0x1e ∷ start_octets ++ end_octets

abbrev pub period : Period
period = record { not_before = start; not_after = end }
