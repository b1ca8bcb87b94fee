-- Names read octet by octet.
use Rattle.std.specs.Prelude.{ℕ, ◌≤◌, ◌==◌, length, if◌then◌else◌, Bool, true, false, List, [], ◌∷◌, Option, Some, None}
use Rattle.host_names.specs.Hosts.{is_name_octet, IsLabel, IsSpelledOut}

-- labels up to the end; `begun` where the first has an octet already
abbrev pub is_spelled : Bool → List ℕ → Bool
is_spelled begun [] = begun
is_spelled begun (x ∷ xs) =
    if x == 46 then (if begun then is_spelled false xs else false) else (if is_name_octet x then is_spelled true xs else false)

-- the octets after a label and a dot
abbrev pub after_label : Bool → List ℕ → Option (List ℕ)
after_label begun [] = None
after_label begun (x ∷ xs) =
    if x == 46 then (if begun then Some xs else None) else (if is_name_octet x then after_label true xs else None)

-- labels after a star match those of a host after its first
abbrev pub MatchBehind : List (List ℕ) → List (List ℕ) → Type 0
MatchBehind ls [] = ⊥
MatchBehind ls (h ∷ hs) = IsLabel h × (2 ≤ length ls) × IsSpelledOut ls hs
