-- An element of definite length in its strict spelling (X.690, 8.1.1).
use Rattle.std.specs.Prelude.{ℕ, Bool, List, ◌++◌, length}
use Rattle.asn1_core.specs.Strict.{Head, IsHead, strict_header}

-- what an element holds; `content` is its content octets
pub record Element : Type 0 where
  pub class : ℕ
  pub constructed : Bool
  pub tag : ℕ
  pub content : List ℕ

-- what the element's header says
abbrev pub head_of_element : Element → Head
head_of_element e = record { class = e.class; constructed = e.constructed; tag = e.tag; size = length e.content }

-- class, tag number and length are in range
abbrev pub IsElement : Element → Type 0
IsElement e = IsHead (head_of_element e)

-- a strict header, then the content
abbrev pub element_octets : Element → List ℕ
element_octets e = strict_header (head_of_element e) ++ e.content
