-- What is read of a tree. These functions retrace the code; `found` and `only` of proofs/ tie them
-- to the octets.
use Rattle.std.specs.Prelude.{ℕ, ◌==◌, ◌&&◌, nat_lt, Bool, true, false, if◌then◌else◌, List, [], ◌∷◌, length, Option, Some, None, option_and_then}
use Rattle.asn1_core.specs.Elements.{Element}
use Rattle.der_tree.specs.Table.{integer, octet_string, is_negative}
use Rattle.der_tree.specs.Tree.{Tree, Trees, none, more, octets}
use Rattle.der_tree.specs.Access.{sequence_at, set_at, oid_at, boolean_at, bit_string_at, plain_at, element_at, first_at, end_at}
use Rattle.cert_model.specs.Fields.{Number, Identifier, Algorithm, Attribute, RelativeName, Name, Bits, Key, Extension}
use Rattle.cert_model.specs.Range.{is_at_most}

infixl 10 ◌>>=◌
abbrev pub ◌>>=◌ : {A B : Type 0} → Option A → (A → Option B) → Option B
o >>= f = option_and_then f o

-- the content of an object identifier
unfoldable pub identifier_at : Tree → Option Identifier
identifier_at t = do
  s ← oid_at t
  Some (element_at t).content

-- a number that is not negative
unfoldable pub number_at : Tree → Option Number
number_at t = do
  n ← plain_at integer t
  if is_negative n then None else Some n

unfoldable pub bits_at : Tree → Option Bits
bits_at t = do
  b ← bit_string_at t
  Some (record { unused = b.0; octets = b.1 })

-- an element or nothing, to the end
abbrev pub last_element_at : Trees → Option (Option Element)
last_element_at none = Some None
last_element_at (more t none) = Some (Some (element_at t))
last_element_at (more t (more u us)) = None

unfoldable pub algorithm_at : Tree → Option Algorithm
algorithm_at t = do
  parts ← sequence_at t
  first ← first_at parts
  identifier ← identifier_at first.0
  parameters ← last_element_at first.1
  Some (record { identifier = identifier; parameters = parameters })

unfoldable pub attribute_at : Tree → Option Attribute
attribute_at t = do
  parts ← sequence_at t
  first ← first_at parts
  identifier ← identifier_at first.0
  second ← first_at first.1
  end ← end_at second.1
  Some (record { identifier = identifier; value = element_at second.0 })

-- what each of the parts is
abbrev pub list_at : {A : Type 0} → (Tree → Option A) → Trees → Option (List A)
list_at read none = Some []
list_at read (more t ts) = do
  a ← read t
  rest ← list_at read ts
  Some (a ∷ rest)

-- each octets at most the next ones
abbrev pub ascend : Trees → Bool
ascend none = true
ascend (more t none) = true
ascend (more t (more u us)) = is_at_most (octets t) (octets u) && ascend (more u us)

unfoldable pub relative_name_at : Tree → Option RelativeName
relative_name_at t = do
  parts ← set_at t
  attributes ← list_at attribute_at parts
  if nat_lt 0 (length attributes) && ascend parts then Some attributes else None

unfoldable pub name_at : Tree → Option Name
name_at t = do
  parts ← sequence_at t
  list_at relative_name_at parts

unfoldable pub key_at : Tree → Option Key
key_at t = do
  parts ← sequence_at t
  first ← first_at parts
  algorithm ← algorithm_at first.0
  second ← first_at first.1
  key ← bits_at second.0
  end ← end_at second.1
  Some (record { algorithm = algorithm; key = key })

-- whether the extension is critical: a true that is written, or none; a false is never written
abbrev pub critical_of : Option Bool → Tree → Trees → Option (Bool × Trees)
critical_of None t ts = Some (false, more t ts)
critical_of (Some true) t ts = Some (true, ts)
critical_of (Some false) t ts = None

unfoldable pub critical_at : Trees → Option (Bool × Trees)
critical_at none = Some (false, none)
critical_at (more t ts) = critical_of (boolean_at t) t ts

unfoldable pub extension_at : Tree → Option Extension
extension_at t = do
  parts ← sequence_at t
  first ← first_at parts
  identifier ← identifier_at first.0
  critical ← critical_at first.1
  last ← first_at critical.1
  value ← plain_at octet_string last.0
  end ← end_at last.1
  Some (record { identifier = identifier; critical = critical.0; value = value })

-- one or more extensions
unfoldable pub extensions_at : Tree → Option (List Extension)
extensions_at t = do
  parts ← sequence_at t
  extensions ← list_at extension_at parts
  if nat_lt 0 (length extensions) then Some extensions else None

-- an element of a context-specific tag
abbrev pub is_tagged : ℕ → Element → Bool
is_tagged tag e = e.class == 2 && e.tag == tag

-- the element of a context-specific tag at the front, if there is one, and the rest
unfoldable pub tagged_at : ℕ → Trees → Option Element × Trees
tagged_at tag none = (None, none)
tagged_at tag (more t ts) = if is_tagged tag (element_at t) then (Some (element_at t), ts) else (None, more t ts)

-- the first part, read so, and the rest
abbrev pub next_at : {A : Type 0} → (Tree → Option A) → Trees → Option (A × Trees)
next_at read ts = do
  first ← first_at ts
  value ← read first.0
  Some (value, first.1)
