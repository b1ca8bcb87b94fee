-- Elements at the front of octets (X.690, 8.1.1). This page is to be believed.
use Rattle.std.specs.Prelude.{ℕ, nat_lt, if◌then◌else◌, List, [], ◌∷◌, take, drop, length, Option, Some, None, Ok, Err}
use Rattle.asn1_core.specs.Strict.{Head}
use Rattle.asn1_core.specs.Answers.{Answer}
use Rattle.asn1_core.specs.Reading.{header_at, strict_at}

-- an element: its first octet, its content, and the octets after it
pub record Part : Type 0 where
  pub first : ℕ
  pub content : List ℕ
  pub rest : List ℕ

-- the element of a header that is read, before the octets after that; its content has to be whole
abbrev pub part_by : ℕ → Answer Head → Option Part
part_by first (Err e) = None
part_by first (Ok p) =
    if nat_lt (length p.1) p.0.size then None
    else Some (record { first = first; content = take p.0.size p.1; rest = drop p.0.size p.1 })

-- the element at the front, whose header has any of the definite forms
abbrev pub part_at : List ℕ → Option Part
part_at [] = None
part_at (first ∷ octets) = part_by first (header_at (first ∷ octets))

-- the element at the front, in the strict spelling
abbrev pub strict_part_at : List ℕ → Option Part
strict_part_at [] = None
strict_part_at (first ∷ octets) = part_by first (strict_at (first ∷ octets))
