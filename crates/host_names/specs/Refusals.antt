-- Why a text is no host: the first reason that applies.
use Rattle.std.specs.Prelude.{◌≡◌, ℕ, ◌==◌, if◌then◌else◌, Bool, false, not, ◌&&◌, ◌||◌, nat_lt, List, [], ◌∷◌, length, count_by, Option, Some, None}
use Rattle.std.specs.List.{list_any}
use Rattle.host_names.specs.declared.refusal.Refusal.{Refusal}
use Rattle.host_names.specs.declared.refusal.Refusal.TheVariants.{Empty, Url, EmailAddress, Wildcard, Zone, Port, NoAddress, NotAscii, Character, LongName, EmptyLabel, LongLabel, Hyphen, Number}
use Rattle.host_names.specs.declared.labels.Fault.{Fault}
use Rattle.host_names.specs.declared.labels.Fault.TheVariants.{NoOctet, TooLong, HyphenAtEnd}
use Rattle.host_names.specs.Hosts.{is_name_octet, labels_of}
use Rattle.host_names.specs.Addresses.{IsNoAddress}
use Rattle.host_names.specs.HostNames.{without_dot, has, last_part, is_number}

-- at least one digit, and nothing else
abbrev pub is_some_number : List ℕ → Bool
is_some_number text = nat_lt 0 (length text) && is_number text

-- a number after the last colon, if this is the only one or comes after brackets
abbrev pub has_port : List ℕ → Bool
has_port text = has 58 text && (is_some_number (last_part 58 text) && (nat_lt (count_by (λ x. x == 58) text) 2 || has 93 text))

-- an octet outside ASCII
abbrev pub is_far : ℕ → Bool
is_far x = nat_lt 127 x

-- an octet that is in no name of a host
abbrev pub is_strange : ℕ → Bool
is_strange x = not (is_name_octet x || x == 46)

abbrev pub ends_in : ℕ → List ℕ → Bool
ends_in octet [] = false
ends_in octet (x ∷ []) = x == octet
ends_in octet (x ∷ y ∷ ys) = ends_in octet (y ∷ ys)

abbrev pub begins_with : ℕ → List ℕ → Bool
begins_with octet [] = false
begins_with octet (x ∷ xs) = x == octet

-- what is wrong with a label
abbrev pub has_fault : Fault → List ℕ → Bool
has_fault NoOctet label = length label == 0
has_fault TooLong label = nat_lt 63 (length label)
has_fault HyphenAtEnd label = begins_with 45 label || ends_in 45 label

abbrev pub some_label : Fault → List ℕ → Bool
some_label fault host = list_any (has_fault fault) (labels_of host)

-- the first that applies to a name's labels
abbrev pub refusal_of_labels : List ℕ → Option Refusal
refusal_of_labels host =
    if some_label NoOctet host then Some EmptyLabel
    else (if some_label TooLong host then Some LongLabel
    else (if some_label HyphenAtEnd host then Some Hyphen
    else (if is_number (last_part 46 host) then Some Number else None)))

-- the first that applies to a name's octets
abbrev pub refusal_of_octets : List ℕ → Option Refusal
refusal_of_octets host =
    if list_any is_far host then Some NotAscii
    else (if list_any is_strange host then Some Character
    else (if nat_lt 253 (length host) then Some LongName else refusal_of_labels host))

-- the first that applies to something with a colon or a bracket
abbrev pub refusal_of_colons : List ℕ → Option Refusal
refusal_of_colons host =
    if has 58 host && has 37 host then Some Zone
    else (if has_port host then Some Port
    else (if has 58 host || (has 91 host || has 93 host) then Some NoAddress else refusal_of_octets host))

abbrev pub refusal_of : List ℕ → Option Refusal
refusal_of host =
    if length host == 0 then Some Empty
    else (if has 47 host then Some Url
    else (if has 64 host then Some EmailAddress
    else (if has 42 host then Some Wildcard else refusal_of_colons host)))

-- a text that writes no address is rejected, with the first reason that applies once its final dot
-- is removed
abbrev pub IsRefusedFor : List ℕ → Refusal → Type 0
IsRefusedFor text reason = IsNoAddress text × (refusal_of (without_dot text) ≡ Some reason)
