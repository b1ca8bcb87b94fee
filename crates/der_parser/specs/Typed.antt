-- What the typed readers read: an element of a tag number, and what it holds by the table's line of
-- that number.
use Rattle.std.specs.Prelude.{◌≡◌, ℕ, ◌-◌, ◌<◌, ◌==◌, not, false, List, [], ◌∷◌, ◌++◌, length, Ok}
use Rattle.asn1_core.specs.Elements.{Element, head_of_element}
use Rattle.asn1_core.specs.Views.{constructed_of, length_of}
use Rattle.asn1_core.specs.declared.header.Header.{Header}
use Rattle.asn1_core.specs.declared.length.Length.TheVariants.{Definite}
use Rattle.der_tree.specs.Access.{content_in, number_of, universal}
use Rattle.der_tree.specs.Shape.{IsContent}
use Rattle.der_tree.specs.Tree.{boolean, Tree, node, Content, leaf}
use Rattle.der_tree.specs.View.{as_universal}
use Rattle.der_parser.specs.Tagged.{IsTagged}

-- by the line of the element's tag number, whatever its class; parts are objects of at most so many
-- levels
abbrev pub HoldsByTag : ℕ → Element → Content → Type 0
HoldsByTag k e c = IsContent k (as_universal e) c

-- one octet: 00 is false, every other is true (X.690, 8.2)
pub record HoldsBerBoolean (e : Element) (c : Content) : Type 0 where
  pub octet : ℕ
  pub constructed : e.constructed ≡ false
  pub octets : e.content ≡ octet ∷ []
  pub value : c ≡ leaf (boolean (not (octet == 0)))

-- the octets begin with an element of this tag number, whose tree this is, and the rest comes after
-- it
pub record ReadsTagged (n : ℕ) (Holds : Element → Content → Type 0) (octets : List ℕ) (t : Tree) (rest : List ℕ) : Type 0 where
  pub front : List ℕ
  pub element : Element
  pub content : Content
  pub is : IsTagged n front element
  pub whole : octets ≡ front ++ rest
  pub holds : Holds element content
  pub tree : t ≡ node (head_of_element element) front content

-- by the table, as the outermost of 50 levels
abbrev pub ReadsDer : ℕ → List ℕ → Tree → List ℕ → Type 0
ReadsDer n = ReadsTagged n (HoldsByTag 49)

-- an INTEGER that isn't negative and is below the limit
abbrev pub ReadsNumber : ℕ → List ℕ → ℕ → List ℕ → Type 0
ReadsNumber limit octets v rest = (t : Tree) × ReadsDer 2 octets t rest × (number_of (content_in t) ≡ Ok v) × (v < limit)

-- as many octets as the header says, by the line of this tag number, as an object of at most so
-- many levels holds them
pub record ReadsContent (k n : ℕ) (header : Header) (octets : List ℕ) (c : Content) (rest : List ℕ) : Type 0 where
  pub inner : List ℕ
  pub level : 0 < k
  pub size : length_of header ≡ Definite (length inner)
  pub whole : octets ≡ inner ++ rest
  pub holds : IsContent (k - 1) (universal (constructed_of header) n inner) c
