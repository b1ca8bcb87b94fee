-- What the accessors answer, of a tree.
use Rattle.std.specs.Prelude.{◌≡◌, ℕ, ◌-◌, ◌==◌, nat_lt, List, length, drop, Bool, true, false, Option, Some, None, Result, Ok, Err, if◌then◌else◌}
use Rattle.std.specs.Int.Digits.{number_from_digits}
use Rattle.asn1_core.specs.declared.error.Error.{Error}
use Rattle.asn1_core.specs.declared.error.Error.TheVariants.{BerTypeError, BerValueError, IntegerNegative, IntegerTooLarge}
use Rattle.asn1_core.specs.Elements.{Element}
use Rattle.asn1_unsigned.specs.declared.unsigned.UnsignedBytes.{UnsignedBytes}
use Rattle.asn1_unsigned.specs.Numbers as numbers
use Rattle.der_tree.specs.Table.{Kind, integer, utf8_string, numeric_string, printable_string, ia5_string, visible_string, tag_of, is_negative, is_shortest}
use Rattle.der_tree.specs.Tree.{boolean, bit_string, oid, enumerated, plain, raw, Tree, node, Content, leaf, sequence, set, Trees, none, more}

abbrev pub content_in : Tree → Content
content_in (node h s c) = c

abbrev pub sequence_of : Content → Option Trees
sequence_of (sequence ts) = Some ts
sequence_of (set ts) = None
sequence_of (leaf v) = None

abbrev pub set_of : Content → Option Trees
set_of (set ts) = Some ts
set_of (sequence ts) = None
set_of (leaf v) = None

abbrev pub boolean_of : Content → Option Bool
boolean_of (leaf (boolean b)) = Some b
boolean_of _ = None

abbrev pub oid_of : Content → Option (List ℕ)
oid_of (leaf (oid s)) = Some s
oid_of _ = None

-- how many bits are unused, and the octets of the bits
abbrev pub bit_string_of : Content → Option (ℕ × List ℕ)
bit_string_of (leaf (bit_string unused s)) = Some (unused, s)
bit_string_of _ = None

-- the octets under a kind's tag
abbrev pub plain_of : Kind → Content → Option (List ℕ)
plain_of k (leaf (plain j s)) = if tag_of j == tag_of k then Some s else None
plain_of k _ = None

-- texts
abbrev pub is_text : Kind → Bool
is_text utf8_string = true
is_text numeric_string = true
is_text printable_string = true
is_text ia5_string = true
is_text visible_string = true
is_text _ = false

abbrev pub text_of : Content → Option (List ℕ)
text_of (leaf (plain k s)) = if is_text k then Some s else None
text_of _ = None

-- the octets of what holds octets, bits or a text, and the content of what is left raw
abbrev pub octets_of : Content → Option (List ℕ)
octets_of (leaf (plain k s)) = Some s
octets_of (leaf (bit_string unused s)) = Some s
octets_of (leaf (raw e)) = Some e.content
octets_of _ = None

-- the number of an INTEGER that is not negative, or of an enumerated value
abbrev pub number_of : Content → Result ℕ Error
number_of (leaf (enumerated n)) = Ok n
number_of (leaf (plain integer s)) = if is_negative s then Err IntegerNegative else Ok (number_from_digits 256 s)
number_of _ = Err BerTypeError

-- the number of an INTEGER that is not negative
abbrev pub unsigned_of : Content → Result ℕ Error
unsigned_of (leaf (plain integer s)) = if is_negative s then Err IntegerNegative else Ok (number_from_digits 256 s)
unsigned_of _ = Err BerTypeError

-- the number of an INTEGER's content octets
abbrev pub integer_at : List ℕ → Result ℕ Error
integer_at s = if is_shortest s then if is_negative s then Err IntegerNegative else Ok (number_from_digits 256 s) else Err BerValueError

-- that number is returned, or that error
abbrev pub TellsUnsigned : Result UnsignedBytes Error → Result ℕ Error → Type 0
TellsUnsigned (Ok v) told = told ≡ Ok (numbers.number_of v)
TellsUnsigned (Err e) told = told ≡ Err e

-- the number, if it is below the limit
abbrev pub below : ℕ → Result ℕ Error → Result ℕ Error
below limit (Ok n) = if nat_lt n limit then Ok n else Err IntegerTooLarge
below limit (Err e) = Err e

-- what is there is returned, or else `BerTypeError`
abbrev pub Offers : {X Y : Type 0} → (X → Y) → Result X Error → Option Y → Type 0
Offers view (Ok x) found = found ≡ Some (view x)
Offers view (Err e) found = (found ≡ None) × (e ≡ BerTypeError)

abbrev pub sequence_at : Tree → Option Trees
sequence_at t = sequence_of (content_in t)

abbrev pub set_at : Tree → Option Trees
set_at t = set_of (content_in t)

abbrev pub boolean_at : Tree → Option Bool
boolean_at t = boolean_of (content_in t)

abbrev pub oid_at : Tree → Option (List ℕ)
oid_at t = oid_of (content_in t)

abbrev pub bit_string_at : Tree → Option (ℕ × List ℕ)
bit_string_at t = bit_string_of (content_in t)

abbrev pub plain_at : Kind → Tree → Option (List ℕ)
plain_at k t = plain_of k (content_in t)

-- a universal element
abbrev pub universal : Bool → ℕ → List ℕ → Element
universal b n s = record { class = 0; constructed = b; tag = n; content = s }

-- the element itself, whatever it holds: what its header says, and the octets after it
abbrev pub element_at : Tree → Element
element_at (node h s c) = record { class = h.class; constructed = h.constructed; tag = h.tag; content = drop (length s - h.size) s }

-- the first of some parts, and the rest
abbrev pub first_at : Trees → Option (Tree × Trees)
first_at none = None
first_at (more t ts) = Some (t, ts)

-- no parts
abbrev pub end_at : Trees → Option (Unit {0})
end_at none = Some tt
end_at (more t ts) = None
