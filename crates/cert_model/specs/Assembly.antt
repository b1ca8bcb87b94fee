-- From the parts of a certificate or list, as they are in a tree, to its fields. These functions
-- retrace the code.
use Rattle.std.specs.Prelude.{◌≡◌, ◌≢◌, ℕ, ◌==◌, ◌&&◌, ◌||◌, nat_lt, Bool, true, false, if◌then◌else◌, List, [], ◌∷◌, Option, Some, None}
use Rattle.asn1_core.specs.Elements.{Element}
use Rattle.der_tree.specs.Table.{is_bit_string}
use Rattle.cert_model.specs.Fields.{Bits, Extension, Entry, Certificate, RevocationList}
use Rattle.cert_model.specs.Octets.{extensions_octets}
use Rattle.cert_model.specs.Range.{AreExtensions}
use Rattle.cert_model.specs.Pieces.{TbsPieces, Signed, TbsListPieces}

-- the INTEGER in [0], 1 or 2
abbrev pub version_number : List ℕ → Option ℕ
version_number (a ∷ b ∷ v ∷ []) = if a == 2 && b == 1 && (v == 1 || v == 2) then Some v else None
version_number _ = None

-- the version, 0 if it isn't written
abbrev pub version_in : Option Element → Option ℕ
version_in None = Some 0
version_in (Some e) = if e.constructed then version_number e.content else None

abbrev pub bits_in : List ℕ → Option (Option Bits)
bits_in [] = None
bits_in (unused ∷ s) = if is_bit_string (unused ∷ s) then Some (Some (record { unused = unused; octets = s })) else None

-- a unique identifier, or none
abbrev pub id_in : Option Element → Option (Option Bits)
id_in None = Some None
id_in (Some e) = if e.constructed then None else bits_in e.content

-- one or more extensions, which these octets spell
pub record AreExtensionsOf (s : List ℕ) (es : List Extension) : Type 0 where
  pub some : es ≢ []
  pub in_range : AreExtensions es
  pub spelled : extensions_octets es ≡ s

-- the extensions in a tagged element, or none
abbrev pub AreExtensionsIn : Option Element → List Extension → Type 0
AreExtensionsIn None es = es ≡ []
AreExtensionsIn (Some e) es = (e.constructed ≡ true) × AreExtensionsOf e.content es

abbrev pub is_there : {A : Type 0} → Option A → Bool
is_there None = false
is_there (Some x) = true

abbrev pub is_some : {A : Type 0} → List A → Bool
is_some [] = false
is_some (x ∷ xs) = true

abbrev pub implies : Bool → Bool → Bool
implies true b = b
implies false b = true

-- identifiers with version 1 or 2, extensions with version 2 only
abbrev pub fits_version : ℕ → Option Bits → Option Bits → List Extension → Bool
fits_version version issuer_id subject_id extensions =
    implies (is_there issuer_id) (nat_lt 0 version) && implies (is_there subject_id) (nat_lt 0 version) && implies (is_some extensions) (version == 2)

abbrev pub certificate_from : Signed TbsPieces → ℕ → Option Bits → Option Bits → List Extension → Certificate
certificate_from s version issuer_id subject_id extensions = record {
  version = version;
  serial = s.signed.serial;
  signature = s.signed.signature;
  issuer = s.signed.issuer;
  not_before = s.signed.validity.0;
  not_after = s.signed.validity.1;
  subject = s.signed.subject;
  key = s.signed.key;
  issuer_id = issuer_id;
  subject_id = subject_id;
  extensions = extensions;
  algorithm = s.algorithm;
  signature_value = s.signature_value;
}

abbrev pub is_version_two : Option ℕ → Bool
is_version_two None = false
is_version_two (Some version) = version == 1

-- entry extensions with version 1 only
abbrev pub entries_fit : Option ℕ → List Entry → Bool
entries_fit version [] = true
entries_fit version (e ∷ es) = implies (is_some e.extensions) (is_version_two version) && entries_fit version es

abbrev pub list_from : Signed TbsListPieces → List Extension → RevocationList
list_from s extensions = record {
  version = s.signed.version;
  signature = s.signed.signature;
  issuer = s.signed.issuer;
  this_update = s.signed.this_update;
  next_update = s.signed.next_update;
  entries = s.signed.entries;
  extensions = extensions;
  algorithm = s.algorithm;
  signature_value = s.signature_value;
}
