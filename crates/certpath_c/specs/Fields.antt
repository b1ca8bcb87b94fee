-- What `certpath_field` returns.
use Rattle.std.specs.Prelude.{◌≡◌, ◌⊎◌, ℕ, ℤ, Bool, true, false, List, length, Option, Some, None, nat_eq, if◌then◌else◌}
use Rattle.cert_model.specs.Class.{Class, certificate, list, other, IsClassOf}
use Rattle.cert_model.specs.Fields.{Certificate, RevocationList}
use Rattle.cert_model.specs.Octets.{name_octets, key_octets}
use Rattle.certpath_c.specs.Status.{done, out_of_memory, too_small, no_field}
use Rattle.certpath_c.specs.Writing.{Puts}

-- the fields of a certificate, by the numbers of the header
abbrev pub certificate_field : ℕ → Certificate → Option (List ℕ)
certificate_field number c =
    if nat_eq number 0 then Some (name_octets c.issuer) else
    if nat_eq number 1 then Some (name_octets c.subject) else
    if nat_eq number 2 then Some (key_octets c.key) else
    if nat_eq number 3 then Some c.serial else
    if nat_eq number 4 then Some c.algorithm.identifier else None

-- and of a list
abbrev pub list_field : ℕ → RevocationList → Option (List ℕ)
list_field number l =
    if nat_eq number 0 then Some (name_octets l.issuer) else
    if nat_eq number 4 then Some l.algorithm.identifier else None

abbrev pub field_in : ℕ → Class → Option (List ℕ)
field_in number (certificate c) = certificate_field number c
field_in number (list l) = list_field number l
field_in number other = None

-- the item has the field, whose octets were put into the buffer, or not, if they don't fit
pub record HasField (item : List ℕ) (number : ℕ) (buffer buffer' : List ℕ) (length' : ℕ) (fits : Bool) : Type 0 where
  pub class : Class
  pub is_class : IsClassOf item class
  pub octets : List ℕ
  pub is_field : field_in number class ≡ Some octets
  pub length_is : length' ≡ length octets
  pub written : Puts buffer buffer' octets fits

-- the item has no such field
pub record HasNoField (item : List ℕ) (number : ℕ) : Type 0 where
  pub class : Class
  pub is_class : IsClassOf item class
  pub none : field_in number class ≡ None

abbrev pub FieldAnswer : List ℕ → ℕ → List ℕ → List ℕ → ℕ → ℕ → ℤ → Type 0
FieldAnswer item number buffer buffer' size size' status =
    ((status ≡ done) × HasField item number buffer buffer' size' true)
    ⊎ ((status ≡ too_small) × HasField item number buffer buffer' size' false)
    ⊎ ((status ≡ no_field) × HasNoField item number × (buffer' ≡ buffer) × (size' ≡ size))
    ⊎ ((status ≡ out_of_memory) × (buffer' ≡ buffer) × (size' ≡ size))
