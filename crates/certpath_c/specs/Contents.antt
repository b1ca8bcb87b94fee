-- What `certpath_item` returns.
use Rattle.std.specs.Prelude.{◌≡◌, ◌⊎◌, ◌++◌, ℕ, ℤ, pos, Bool, true, false, List, [], length, Option, Some, None, option_copied, replicate}
use Rattle.cert_model.specs.Class.{Class, certificate, list, other, IsClassOf}
use Rattle.cert_model.specs.KeyIds.{IsAuthorityKeyId, IsSubjectKeyId}
use Rattle.sha2.specs.Sha256.{sha256}
use Rattle.certpath_c.specs.declared.contents.Contents.{Contents}
use Rattle.certpath_c.specs.declared.contents.Extent.{Extent}
use Rattle.certpath_c.specs.declared.contents.Found.{Found}
use Rattle.certpath_c.specs.declared.contents.ItemRead.{ItemRead}
use Rattle.certpath_c.specs.declared.times.Moment.{Moment}
use Rattle.certpath_c.specs.declared.times.Validity.{Validity}
use Rattle.certpath_c.specs.Classing.{class_number}
use Rattle.certpath_c.specs.Fields.{field_in}
use Rattle.certpath_c.specs.Times.{IsValidityOf}
use Rattle.certpath_c.specs.Status.{done, out_of_memory, too_small}
use Rattle.certpath_c.specs.Writing.{Puts}

-- the octets of each field, if an item has it
pub record Fields : Type 0 where
  pub issuer : Option (List ℕ)
  pub subject : Option (List ℕ)
  pub key : Option (List ℕ)
  pub serial : Option (List ℕ)
  pub algorithm : Option (List ℕ)
  pub subject_key_id : Option (List ℕ)
  pub authority_key_id : Option (List ℕ)

-- the identifier of which this is so, or that there is none
abbrev pub IsTheOne : (List ℕ → Type 0) → Option (List ℕ) → Type 0
IsTheOne P (Some id) = P id
IsTheOne P None = (id : List ℕ) → ¬ P id

-- the key identifiers are those that a certificate names (RFC 5280, 4.2.1.1 and 4.2.1.2)
abbrev pub IsSubjectIdIn : Class → Option (List ℕ) → Type 0
IsSubjectIdIn (certificate c) id = IsTheOne (IsSubjectKeyId c) id
IsSubjectIdIn (list l) id = id ≡ None
IsSubjectIdIn other id = id ≡ None

abbrev pub IsAuthorityIdIn : Class → Option (List ℕ) → Type 0
IsAuthorityIdIn (certificate c) id = IsTheOne (IsAuthorityKeyId c) id
IsAuthorityIdIn (list l) id = id ≡ None
IsAuthorityIdIn other id = id ≡ None

-- the fields of a class, as `certpath_field` writes them, and the key identifiers
pub record AreFieldsOf (class : Class) (f : Fields) : Type 0 where
  pub issuer : f.issuer ≡ field_in 0 class
  pub subject : f.subject ≡ field_in 1 class
  pub key : f.key ≡ field_in 2 class
  pub serial : f.serial ≡ field_in 3 class
  pub algorithm : f.algorithm ≡ field_in 4 class
  pub subject_key_id : IsSubjectIdIn class f.subject_key_id
  pub authority_key_id : IsAuthorityIdIn class f.authority_key_id

abbrev pub octets_in : Option (List ℕ) → List ℕ
octets_in None = []
octets_in (Some octets) = octets

-- the fields that there are, one after another
abbrev pub fields_octets : Fields → List ℕ
fields_octets f =
    (((((octets_in f.issuer ++ octets_in f.subject) ++ octets_in f.key) ++ octets_in f.serial)
    ++ octets_in f.algorithm) ++ octets_in f.subject_key_id) ++ octets_in f.authority_key_id

-- the SHA-256 digest of a field; 32 zeros if it isn't there
abbrev pub digest_in : Option (List ℕ) → List ℕ
digest_in None = replicate 32 0
digest_in (Some octets) = sha256 octets

-- how many octets a field has, and whether it is there
abbrev pub HasExtent : Option (List ℕ) → Extent → Type 0
HasExtent None e = (e.length ≡ 0) × (e.is_there ≡ 0)
HasExtent (Some octets) e = (e.length ≡ length octets) × (e.is_there ≡ 1)

pub record HaveExtents (f : Fields) (c : Contents) : Type 0 where
  pub issuer : HasExtent f.issuer c.issuer
  pub subject : HasExtent f.subject c.subject
  pub key : HasExtent f.key c.key
  pub serial : HasExtent f.serial c.serial
  pub algorithm : HasExtent f.algorithm c.algorithm
  pub subject_key_id : HasExtent f.subject_key_id c.subject_key_id
  pub authority_key_id : HasExtent f.authority_key_id c.authority_key_id

-- no time
abbrev pub never : Moment
never = record { year = pos 0; month = pos 0; day = pos 0; hour = pos 0; minute = pos 0; second = pos 0 }

-- the times, as `certpath_times` gives them; zeros of an item that has none
abbrev pub HasTimes : Class → Validity → Type 0
HasTimes (certificate c) v = IsValidityOf (certificate c) v
HasTimes (list l) v = IsValidityOf (list l) v
HasTimes other v = (v.first ≡ never) × (v.last ≡ never) × (v.has_last ≡ 0)

-- what was read, and its fields
abbrev pub found_view : Found → Fields
found_view f = record {
  issuer = option_copied f.issuer;
  subject = option_copied f.subject;
  key = option_copied f.key;
  serial = option_copied f.serial;
  algorithm = option_copied f.algorithm;
  subject_key_id = option_copied f.subject_key_id;
  authority_key_id = option_copied f.authority_key_id;
}

pub record IsReadOf (class : Class) (r : ItemRead) : Type 0 where
  pub class_is : r.class ≡ class_number class
  pub times : HasTimes class r.validity
  pub fields : AreFieldsOf class (found_view r.found)

-- what was read is of the class that the item has
abbrev pub IsReadFrom : List ℕ → ItemRead → Type 0
IsReadFrom item r = (class : Class) × IsClassOf item class × IsReadOf class r

-- what was read of an item, as the structure of the header has it
pub record AreContents (item : List ℕ) (r : ItemRead) (size : ℕ) (c : Contents) : Type 0 where
  pub class : c.class ≡ r.class
  pub validity : c.validity ≡ r.validity
  pub extents : HaveExtents (found_view r.found) c
  pub length_is : c.length ≡ size
  pub item_digest : c.item_digest ≡ sha256 item
  pub key_digest : c.key_digest ≡ digest_in (found_view r.found).key

-- the class, the times, the fields and the digests of the item; the fields were put into the buffer,
-- or not, if they don't fit
pub record HasContents (item buffer buffer' : List ℕ) (c : Contents) (fits : Bool) : Type 0 where
  pub class : Class
  pub is_class : IsClassOf item class
  pub class_is : c.class ≡ class_number class
  pub times : HasTimes class c.validity
  pub fields : Fields
  pub are_fields : AreFieldsOf class fields
  pub extents : HaveExtents fields c
  pub length_is : c.length ≡ length (fields_octets fields)
  pub item_digest : c.item_digest ≡ sha256 item
  pub key_digest : c.key_digest ≡ digest_in fields.key
  pub written : Puts buffer buffer' (fields_octets fields) fits

abbrev pub ContentsAnswer : List ℕ → List ℕ → List ℕ → Contents → Contents → ℤ → Type 0
ContentsAnswer item buffer buffer' contents contents' status =
    ((status ≡ done) × HasContents item buffer buffer' contents' true)
    ⊎ ((status ≡ too_small) × HasContents item buffer buffer' contents' false)
    ⊎ ((status ≡ out_of_memory) × (buffer' ≡ buffer) × (contents' ≡ contents))
