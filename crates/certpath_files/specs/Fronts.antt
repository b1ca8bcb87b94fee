-- What octets begin with: the SEQUENCE of an item, or what is wrong. This page is to be believed.
use Rattle.std.specs.Prelude.{ℕ, ◌+◌, ◌-◌, ◌==◌, nat_lt, Bool, true, false, ◌&&◌, if◌then◌else◌, List, [], ◌∷◌, length, Option, Some, None, Ok, Err}
use Rattle.asn1_core.specs.Strict.{Head}
use Rattle.asn1_core.specs.Answers.{Answer}
use Rattle.asn1_core.specs.Reading.{header_at, strict_at}

-- why octets begin with no item
pub data Fault : Type 0 where
  -- no SEQUENCE begins them
  no_sequence : Fault
  -- its length is indefinite (BER), or cut
  no_length : Fault
  -- it has more content octets than an item
  too_long : Fault
  -- so many octets of it are missing
  missing : ℕ → Fault
  -- its length isn't in the shortest form (BER)
  long_form : Fault

pub data Front : Type 0 where
  -- a SEQUENCE of so many octets, header and content, in its strict spelling
  whole : ℕ → Front
  -- no item, but an element of so many octets, which can be passed over
  passed : Fault → ℕ → Front
  -- no item, and nothing says where the next one begins
  stops : Fault → Front

-- so many content octets an item has at most
abbrev pub most : ℕ
most = 16_777_216

-- universal class, constructed, tag number 16 (X.690, 8.9.1)
abbrev pub is_sequence : Head → Bool
is_sequence h = (h.class == 0) && h.constructed && (h.tag == 16)

-- the front of a SEQUENCE whose header has so many octets and says this size, before so many octets
abbrev pub sized : Bool → ℕ → ℕ → ℕ → Front
sized is_strict header size room =
    if nat_lt room size then stops (if nat_lt most size then too_long else missing (size - room))
    else if nat_lt most size then passed too_long (header + size)
    else if is_strict then whole (header + size)
    else passed long_form (header + size)

-- by the header that is read at the front, and the octets after it
abbrev pub by_header : Bool → List ℕ → Head → List ℕ → Front
by_header is_strict octets h after =
    if is_sequence h then sized is_strict (length octets - length after) h.size (length after) else stops no_sequence

-- if no header of definite length begins the octets
abbrev pub without_header : List ℕ → Front
without_header [] = stops no_sequence
without_header (first ∷ octets) = if first == 48 then stops no_length else stops no_sequence

abbrev pub by_lenient : List ℕ → Answer Head → Front
by_lenient octets (Ok p) = by_header false octets p.0 p.1
by_lenient octets (Err e) = without_header octets

abbrev pub by_strict : List ℕ → Answer Head → Front
by_strict octets (Ok p) = by_header true octets p.0 p.1
by_strict octets (Err e) = by_lenient octets (header_at octets)

abbrev pub front_of : List ℕ → Front
front_of octets = by_strict octets (strict_at octets)

-- how many octets the front takes, if that is known
abbrev pub size_in : Front → Option ℕ
size_in (whole size) = Some size
size_in (passed fault size) = Some size
size_in (stops fault) = None
