-- Names of hosts, as they are asked for (RFC 1123, 2.1).
use Rattle.std.specs.Prelude.{◌≡◌, ◌≢◌, ℕ, ◌≤◌, ◌==◌, if◌then◌else◌, Bool, false, List, [], ◌∷◌, ◌++◌, length}
use Rattle.std.specs.List.{AllByRecursion, list_any, list_all}
use Rattle.std.specs.Char.{is_ascii_digit}
use Rattle.host_names.specs.Hosts.{labels_of, AreNameOctets}

-- a text without its final dot
abbrev pub without_dot : List ℕ → List ℕ
without_dot [] = []
without_dot (x ∷ []) = if x == 46 then [] else x ∷ []
without_dot (x ∷ y ∷ ys) = x ∷ without_dot (y ∷ ys)

abbrev pub has : ℕ → List ℕ → Bool
has octet text = list_any (λ x. x == octet) text

-- the octets after the last separator; all of them if there is none
abbrev pub last_part : ℕ → List ℕ → List ℕ
last_part separator [] = []
last_part separator (x ∷ xs) = if has separator xs then last_part separator xs else (if x == separator then xs else x ∷ xs)

-- digits and nothing else
abbrev pub is_number : List ℕ → Bool
is_number = list_all is_ascii_digit

-- A label of a host's name (RFC 1123, 2.1, and the underscore).
pub record IsHostLabel (label : List ℕ) : Type 0 where
  pub some : label ≢ []
  -- RFC 1035, 2.3.4
  pub short : length label ≤ 63
  pub octets : AreNameOctets label
  pub first : (rest : List ℕ) → label ≢ 45 ∷ rest
  pub last : (front : List ℕ) → label ≢ front ++ 45 ∷ []

-- The name of a host, without a final dot.
pub record IsHostName (host : List ℕ) : Type 0 where
  -- RFC 1035, 2.3.4: 255 octets with the length octets of the first label and of the root
  pub short : length host ≤ 253
  pub labels : AllByRecursion IsHostLabel (labels_of host)
  -- RFC 1123, 2.1: such a text would be an address
  pub no_number : is_number (last_part 46 host) ≡ false
