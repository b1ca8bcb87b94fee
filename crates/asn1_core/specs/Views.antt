-- What a `Header` says, for clauses of this crate and of those above it.
use Rattle.std.specs.Prelude.{◌≡◌, ℕ, ◌<◌, ◌==◌, ◌||◌, Bool, Option, Some, None, Result, Ok, Err, nat_eq}
use Rattle.std.specs.Ordering.{on, eq_of_both}
use Rattle.std.specs.Bool.{beq}
use Rattle.asn1_core.specs.Strict.{Head}
use Rattle.asn1_core.specs.Lenient.{BerHead}
use Rattle.asn1_core.specs.declared.read.Identifier.{Identifier}
use Rattle.asn1_core.specs.declared.class.Class.{Class}
use Rattle.asn1_core.specs.declared.class.Class.TheVariants.{Universal, Application, ContextSpecific, Private}
use Rattle.asn1_core.specs.declared.length.Length.{Length}
use Rattle.asn1_core.specs.declared.length.Length.TheVariants.{Definite, Indefinite}
use Rattle.asn1_core.specs.declared.tag.Tag.{Tag}
use Rattle.asn1_core.specs.declared.header.Header.{Header}

-- bits 8 and 7 of the first octet (X.690, table 1)
abbrev pub class_number : Class → ℕ
class_number Universal = 0
class_number Application = 1
class_number ContextSpecific = 2
class_number Private = 3

-- the number of content octets; none for the indefinite form
abbrev pub definite_size : Length → Option ℕ
definite_size (Definite n) = Some n
definite_size Indefinite = None

-- the number of content octets, 0 for the indefinite form
abbrev pub size_of : Length → ℕ
size_of (Definite n) = n
size_of Indefinite = 0

abbrev pub IsDefinite : Length → Type 0
IsDefinite (Definite n) = Unit {0}
IsDefinite Indefinite = ⊥

-- the parts of a header
abbrev pub class_of : Header → Class
class_of h = h.class

abbrev pub constructed_of : Header → Bool
constructed_of h = h.constructed

abbrev pub tag_of : Header → Tag
tag_of h = h.tag

abbrev pub length_of : Header → Length
length_of h = h.length

-- a header with one part changed
abbrev pub with_class_of : Header → Class → Header
with_class_of h class = record h { class = class }

abbrev pub with_constructed_of : Header → Bool → Header
with_constructed_of h constructed = record h { constructed = constructed }

abbrev pub with_tag_of : Header → Tag → Header
with_tag_of h tag = record h { tag = tag }

abbrev pub with_length_of : Header → Length → Header
with_length_of h length = record h { length = length }

-- what a header of definite length says
abbrev pub head_of : Header → Head
head_of h = record { class = class_number h.class; constructed = h.constructed; tag = h.tag.0; size = size_of h.length }

-- what a header says
abbrev pub ber_head_of : Header → BerHead
ber_head_of h = record { class = class_number h.class; constructed = h.constructed; tag = h.tag.0; size = definite_size h.length }

-- the class of a number, or none above 3 (X.690, table 1)
abbrev pub ClassOf : {E : Type 0} → ℕ → Result Class E → Type 0
ClassOf number (Ok class) = number ≡ class_number class
ClassOf number (Err e) = 3 < number

-- the forms of the identifier that every element of the tag number has: sequences and sets are
-- constructed (X.690, 8.9.1 and 8.11.1)
abbrev pub is_constructed_tag : ℕ → Bool
is_constructed_tag tag = tag == 16 || tag == 17

-- a universal header of length 0
abbrev pub IsSimpleHeader : Tag → Header → Type 0
IsSimpleHeader tag h = h ≡ record { class = Universal; constructed = is_constructed_tag tag.0; tag = tag; length = Definite 0 }

-- equality of headers: class, constructed bit and tag number are equal, whatever the lengths
abbrev pub same_kind : Header → Header → Bool
same_kind = eq_of_both (on (λ h. class_number h.class) nat_eq) (eq_of_both (on (λ h. h.constructed) beq) (on (λ h. h.tag.0) nat_eq))

-- what identifier octets say (X.690, 8.1.2)
pub record Identity : Type 0 where
  pub class : ℕ
  pub constructed : Bool
  pub tag : ℕ

-- what the code's reader of identifier octets holds (X.690, 8.1.2)
abbrev pub identity_of : Identifier → Identity
identity_of i = record { class = class_number i.class; constructed = i.constructed; tag = i.tag }
