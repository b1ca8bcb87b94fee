-- The last octets of a text.
use Rattle.std.specs.Prelude.{ℕ, List, length, drop, nat_lt, if◌then◌else◌, ◌-◌}
use Rattle.std.specs.Int.{w64, from_le_bytes}

-- the last eight octets as a number, the first of them the lowest; 0 of fewer
abbrev pub tail_of : List ℕ → ℕ
tail_of t = if nat_lt (length t) 8 then 0 else from_le_bytes w64 (drop (length t - 8) t)
