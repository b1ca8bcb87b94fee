-- How the names in an extension are listed. This page is to be believed.
use Rattle.std.specs.Prelude.{ℕ, ◌-◌, ◌==◌, nat_lt, if◌then◌else◌, List, [], ◌∷◌, ◌++◌, length, take, codes}
use Rattle.std.specs.Fmt.{decimal}
use Rattle.std.specs.List.{flat_map}
use Rattle.x509_names.specs.NameTexts.{upper_pair}
use Rattle.certpath_why.specs.Texts.{escaped_octet}

-- so many names a line has at most
abbrev pub most_names : ℕ
most_names = 20

-- and so many octets of each, before they are escaped
abbrev pub most_octets : ℕ
most_octets = 253

-- an octet of a name: a comma is escaped too, since one separates two names
abbrev pub listed_octet : ℕ → List ℕ
listed_octet octet = if octet == 44 then 92 ∷ upper_pair octet else escaped_octet octet

-- three dots for the octets that are left out
abbrev pub dots_for : List ℕ → List ℕ
dots_for name = if nat_lt most_octets (length name) then codes "..." else []

-- a name in a list
abbrev pub shown_part : List ℕ → List ℕ
shown_part name = flat_map listed_octet (take most_octets name) ++ dots_for name

-- how many names are left out
abbrev pub more_words : ℕ → List ℕ
more_words n = if n == 0 then [] else codes " and " ++ (decimal n ++ codes " more")

-- the first names, with a comma between two, and how many follow
abbrev pub listed : {X : Type 0} → (X → List ℕ) → List X → List ℕ
listed text_of [] = []
listed text_of (x ∷ xs) =
    shown_part (text_of x) ++ (flat_map (λ y. codes ", " ++ shown_part (text_of y)) (take (most_names - 1) xs) ++ more_words (length xs - (most_names - 1)))
