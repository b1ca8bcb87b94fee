-- The names and the key by which signatures are looked at.
use Rattle.std.specs.Prelude.{ℕ, List, Option, Some, None, slice_get}
use Rattle.cert_model.specs.Octets.{name_octets, key_octets}
use Rattle.cert_model.specs.Class.{Class, certificate, list, other}
use Rattle.cert_judge.specs.Revoking.{Item}

-- under which name an item was issued (RFC 5280, 4.1.2.4 and 5.1.2.3)
abbrev pub issuer_of : Class → Option (List ℕ)
issuer_of (certificate c) = Some (name_octets c.issuer)
issuer_of (list l) = Some (name_octets l.issuer)
issuer_of other = None

-- the name of a certificate's subject, and its key element (RFC 5280, 4.1.2.6 and 4.1.2.7)
abbrev pub subject_of : Class → Option (List ℕ)
subject_of (certificate c) = Some (name_octets c.subject)
subject_of (list l) = None
subject_of other = None

abbrev pub key_of : Class → Option (List ℕ)
key_of (certificate c) = Some (key_octets c.key)
key_of (list l) = None
key_of other = None

-- what the class of an item shows; nothing if there is no item
abbrev pub at_item : (Class → Option (List ℕ)) → Option Item → Option (List ℕ)
at_item f None = None
at_item f (Some x) = f x.class

abbrev pub issuer_at : List Item → ℕ → Option (List ℕ)
issuer_at items v = at_item issuer_of (slice_get items v)

abbrev pub subject_at : List Item → ℕ → Option (List ℕ)
subject_at items v = at_item subject_of (slice_get items v)

abbrev pub key_at : List Item → ℕ → Option (List ℕ)
key_at items v = at_item key_of (slice_get items v)
