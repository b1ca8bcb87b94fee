-- Certificates and lists as their parts are in a tree. These functions retrace the code. What has a
-- context-specific tag is left as an element here: a tree holds the octets of such an element, and
-- not what they mean.
use Rattle.std.specs.Prelude.{ℕ, ◌==◌, nat_lt, if◌then◌else◌, List, [], ◌∷◌, length, Option, Some, None}
use Rattle.asn1_core.specs.Elements.{Element}
use Rattle.der_tree.specs.Table.{integer}
use Rattle.der_tree.specs.Tree.{Tree, Trees, none, more}
use Rattle.der_tree.specs.Access.{sequence_at, plain_at, end_at}
use Rattle.cert_model.specs.Fields.{Number, Algorithm, Name, Bits, Key, Extension, CivilTime, Entry}
use Rattle.cert_model.specs.Reads.{◌>>=◌, next_at, number_at, bits_at, algorithm_at, name_at, key_at, list_at, extensions_at, tagged_at}
use Rattle.cert_model.specs.Times.{time_at}

-- Validity
unfoldable pub validity_at : Tree → Option (CivilTime × CivilTime)
validity_at t = do
  parts ← sequence_at t
  not_before ← next_at time_at parts
  not_after ← next_at time_at not_before.1
  end ← end_at not_after.1
  Some (not_before.0, not_after.0)

-- TBSCertificate
pub record TbsPieces : Type 0 where
  pub version : Option Element
  pub serial : Number
  pub signature : Algorithm
  pub issuer : Name
  pub validity : CivilTime × CivilTime
  pub subject : Name
  pub key : Key
  pub issuer_id : Option Element
  pub subject_id : Option Element
  pub extensions : Option Element

unfoldable pub tbs_at : Tree → Option TbsPieces
tbs_at t = do
  parts ← sequence_at t
  let version = tagged_at 0 parts
  serial ← next_at number_at version.1
  signature ← next_at algorithm_at serial.1
  issuer ← next_at name_at signature.1
  validity ← next_at validity_at issuer.1
  subject ← next_at name_at validity.1
  key ← next_at key_at subject.1
  let issuer_id = tagged_at 1 key.1
  let subject_id = tagged_at 2 issuer_id.1
  let extensions = tagged_at 3 subject_id.1
  end ← end_at extensions.1
  Some (record { version = version.0; serial = serial.0; signature = signature.0; issuer = issuer.0; validity = validity.0; subject = subject.0; key = key.0; issuer_id = issuer_id.0; subject_id = subject_id.0; extensions = extensions.0 })

-- Certificate and CertificateList alike: the signed part, the algorithm and the signature value
pub record Signed (A : Type 0) : Type 0 where
  pub signed : A
  pub algorithm : Algorithm
  pub signature_value : Bits

abbrev pub signed_at : {A : Type 0} → (Tree → Option A) → Tree → Option (Signed A)
signed_at read t = do
  parts ← sequence_at t
  signed ← next_at read parts
  algorithm ← next_at algorithm_at signed.1
  signature_value ← next_at bits_at algorithm.1
  end ← end_at signature_value.1
  Some (record { signed = signed.0; algorithm = algorithm.0; signature_value = signature_value.0 })

-- Extensions, or nothing, to the end
abbrev pub last_extensions_at : Trees → Option (List Extension)
last_extensions_at none = Some []
last_extensions_at (more t none) = extensions_at t
last_extensions_at (more t (more u us)) = None

-- an entry of revokedCertificates
unfoldable pub entry_at : Tree → Option Entry
entry_at t = do
  parts ← sequence_at t
  serial ← next_at number_at parts
  date ← next_at time_at serial.1
  extensions ← last_extensions_at date.1
  Some (record { serial = serial.0; date = date.0; extensions = extensions })

-- the number at the front, which is 1, or none
abbrev pub list_version_of : Option (List ℕ) → Tree → Trees → Option (Option ℕ × Trees)
list_version_of None t ts = Some (None, more t ts)
list_version_of (Some []) t ts = None
list_version_of (Some (version ∷ [])) t ts = if version == 1 then Some (Some version, ts) else None
list_version_of (Some (a ∷ b ∷ s)) t ts = None

unfoldable pub list_version_at : Trees → Option (Option ℕ × Trees)
list_version_at none = Some (None, none)
list_version_at (more t ts) = list_version_of (plain_at integer t) t ts

-- a time at the front, or none
abbrev pub maybe_time_of : Option CivilTime → Tree → Trees → Option CivilTime × Trees
maybe_time_of None t ts = (None, more t ts)
maybe_time_of (Some time) t ts = (Some time, ts)

unfoldable pub maybe_time_at : Trees → Option CivilTime × Trees
maybe_time_at none = (None, none)
maybe_time_at (more t ts) = maybe_time_of (time_at t) t ts

-- one or more entries of a sequence
unfoldable pub some_entries_at : Trees → Option (List Entry)
some_entries_at parts = do
  entries ← list_at entry_at parts
  if nat_lt 0 (length entries) then Some entries else None

-- the entries of a sequence at the front, or none
abbrev pub entries_in_of : Option Trees → Option (List Entry)
entries_in_of None = Some []
entries_in_of (Some parts) = some_entries_at parts

unfoldable pub entries_in : Trees → Option (List Entry)
entries_in none = Some []
entries_in (more t ts) = entries_in_of (sequence_at t)

-- what follows it
abbrev pub behind_of : Option Trees → Tree → Trees → Trees
behind_of None t ts = more t ts
behind_of (Some parts) t ts = ts

unfoldable pub behind_entries : Trees → Trees
behind_entries none = none
behind_entries (more t ts) = behind_of (sequence_at t) t ts

-- TBSCertList
pub record TbsListPieces : Type 0 where
  pub version : Option ℕ
  pub signature : Algorithm
  pub issuer : Name
  pub this_update : CivilTime
  pub next_update : Option CivilTime
  pub entries : List Entry
  pub extensions : Option Element

unfoldable pub tbs_list_at : Tree → Option TbsListPieces
tbs_list_at t = do
  parts ← sequence_at t
  version ← list_version_at parts
  signature ← next_at algorithm_at version.1
  issuer ← next_at name_at signature.1
  this_update ← next_at time_at issuer.1
  let next_update = maybe_time_at this_update.1
  entries ← entries_in next_update.1
  let extensions = tagged_at 0 (behind_entries next_update.1)
  end ← end_at extensions.1
  Some (record { version = version.0; signature = signature.0; issuer = issuer.0; this_update = this_update.0; next_update = next_update.0; entries = entries; extensions = extensions.0 })
