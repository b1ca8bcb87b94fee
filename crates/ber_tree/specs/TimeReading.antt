-- Times read step by step. The meaning is in `Time`; `proofs/TimeLaws` shows that these undo it.
use Rattle.std.specs.Prelude.{ℕ, zero, suc, nat_le, ◌==◌, ◌&&◌, ◌||◌, Bool, true, false, if◌then◌else◌, Option, Some, None, option_and_then, List, [], ◌∷◌}
use Rattle.std.specs.Char.{is_ascii_digit}
use Rattle.der_tree.specs.TimeReading.{pair_at}

infixl 10 ◌>>=◌
abbrev pub ◌>>=◌ : {A B : Type 0} → Option A → (A → Option B) → Option B
o >>= f = option_and_then f o

-- after two digits of a number in a range
unfoldable pub ranged_at : ℕ → ℕ → List ℕ → Option (List ℕ)
ranged_at least most i = do
  p ← pair_at i
  if nat_le least p.0 && nat_le p.0 most then Some p.1 else None

-- after MMDDHHMM
unfoldable pub clock_at : List ℕ → Option (List ℕ)
clock_at i = do
  day ← ranged_at 1 12 i
  hour ← ranged_at 1 31 day
  minute ← ranged_at 0 23 hour
  ranged_at 0 59 minute

abbrev pub begins_with_digit : List ℕ → Bool
begins_with_digit [] = false
begins_with_digit (a ∷ i) = is_ascii_digit a

-- after SS, if a digit is there
unfoldable pub second_at : List ℕ → Option (List ℕ)
second_at i = if begins_with_digit i then ranged_at 0 59 i else Some i

-- after so many digits at most, a last digit being there: the last isn't 0
unfoldable pub digits_at : ℕ → ℕ → List ℕ → Option (List ℕ)
digits_at zero last i = if last == 48 then None else Some i
digits_at (suc n) last [] = if last == 48 then None else Some []
digits_at (suc n) last (d ∷ i) = if is_ascii_digit d then digits_at n d i else (if last == 48 then None else Some (d ∷ i))

-- after a point and one to three digits, if a point is there
unfoldable pub fraction_at : List ℕ → Option (List ℕ)
fraction_at [] = Some []
fraction_at (p ∷ []) = if p == 46 then None else Some (p ∷ [])
fraction_at (p ∷ d ∷ i) = if p == 46 then (if is_ascii_digit d then digits_at 2 d i else None) else Some (p ∷ d ∷ i)

-- after SS and its fraction, if a digit is there
unfoldable pub exact_second_at : List ℕ → Option (List ℕ)
exact_second_at i = if begins_with_digit i then (ranged_at 0 59 i >>= fraction_at) else Some i

-- after HHMM
unfoldable pub offset_at : List ℕ → Option (List ℕ)
offset_at i = do
  minute ← ranged_at 0 23 i
  ranged_at 0 59 minute

abbrev pub is_over : Option (List ℕ) → Bool
is_over None = false
is_over (Some []) = true
is_over (Some (a ∷ i)) = false

-- Z, or a sign and an offset
unfoldable pub is_zone : List ℕ → Bool
is_zone [] = false
is_zone (sign ∷ []) = sign == 90
is_zone (sign ∷ a ∷ i) = (sign == 43 || sign == 45) && is_over (offset_at (a ∷ i))

unfoldable pub is_local : List ℕ → Bool
is_local [] = true
is_local (a ∷ i) = is_zone (a ∷ i)

-- up to the zone
unfoldable pub utc_at : List ℕ → Option (List ℕ)
utc_at i = do
  year ← pair_at i
  second ← clock_at year.1
  second_at second

unfoldable pub generalized_at : List ℕ → Option (List ℕ)
generalized_at i = do
  century ← pair_at i
  year ← pair_at century.1
  second ← clock_at year.1
  exact_second_at second

-- and what is left is so
abbrev pub ends : (List ℕ → Bool) → Option (List ℕ) → Bool
ends f None = false
ends f (Some i) = f i
