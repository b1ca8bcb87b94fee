-- The first fault of an object as a certificate, and as a revocation list (RFC 5280, 4.1 and 5.1).
use Rattle.std.specs.Prelude.{◌≡◌, ℕ, ◌==◌, ◌||◌, nat_lt, List, [], ◌∷◌, Bool, true, false, if◌then◌else◌, Option, Some, None, Ok, Err}
use Rattle.asn1_core.specs.Elements.{Element}
use Rattle.der_tree.specs.Table.{integer, utc_time, generalized_time}
use Rattle.der_tree.specs.Tree.{Tree, Trees, none, more}
use Rattle.der_tree.specs.Access.{sequence_at, plain_at, element_at}
use Rattle.cert_model.specs.Fields.{Extension}
use Rattle.cert_model.specs.Reads.{is_tagged}
use Rattle.cert_model.specs.Times.{time_at}
use Rattle.cert_model.specs.Assembly.{version_in, id_in, AreExtensionsIn, is_there, is_some, implies, is_version_two}
use Rattle.cert_faults.specs.declared.places.Field.{Field}
use Rattle.cert_faults.specs.declared.places.Field.TheVariants as fields
use Rattle.cert_faults.specs.declared.places.Expected.TheVariants as wants
use Rattle.cert_faults.specs.declared.steps.Place.{Place}
use Rattle.cert_faults.specs.declared.steps.Blame.{Blame}
use Rattle.cert_faults.specs.Steps.{Outcome, ◌>>=◌, unlike, whole, inside, left_after, Rest, there_or, check, test, sequence_or, first_or, end_or, next_or, each_in}
use Rattle.cert_faults.specs.Walks.{number_fault, bits_fault, time_fault, algorithm_fault, name_fault, validity_fault, key_fault, entry_fault, extensions_fault}
use Rattle.cert_faults.specs.Elements.{IsObjectFault}

-- the element of a context-specific tag at the front, if there is one, the octets left after its header, and the parts that follow
abbrev pub tagged_in : ℕ → ℕ → Trees → Option Element × ℕ × Rest
tagged_in tag n none = (None, n, (none, n))
tagged_in tag n (more t ts) = if is_tagged tag (element_at t) then (Some (element_at t), inside n t, (ts, left_after n t)) else (None, n, (more t ts, n))

abbrev pub tagged : ℕ → Rest → Option Element × ℕ × Rest
tagged tag r = tagged_in tag r.1 r.0

-- version [0] EXPLICIT Version DEFAULT v1 (RFC 5280, 4.1.2.1)
abbrev pub certificate_version : Rest → Outcome (ℕ × Rest)
certificate_version r = do
  version ← there_or (unlike (whole fields.Version) wants.VersionTwoOrThree r.1) (version_in (tagged 0 r).0)
  Ok (version, (tagged 0 r).2)

-- a unique identifier, with version 2 or 3 only (RFC 5280, 4.1.2.8)
abbrev pub id_of : Place → ℕ → ℕ → Option Element → Rest → Outcome Rest
id_of place version n None rest = Ok rest
id_of place version n (Some e) rest = do
  later ← test (unlike place wants.LaterVersion n) (nat_lt 0 version)
  ok ← check (unlike place wants.ImplicitBits n) (id_in (Some e))
  Ok rest

abbrev pub id_or : Field → ℕ → ℕ → Rest → Outcome Rest
id_or field tag version r = id_of (whole field) version r.1 (tagged tag r).0 (tagged tag r).2

-- The first part up to its extensions: whether its version has any, and what is left to be read.
abbrev pub Front : Type 0
Front = Bool × Rest

unfoldable pub certificate_front : ℕ → Tree → Outcome Front
certificate_front n t = do
  all ← sequence_or (whole fields.TbsCertificate) n t
  version ← certificate_version all
  serial ← next_or (number_fault (whole fields.SerialNumber)) (whole fields.SerialNumber) wants.NumberFromZero version.1
  signature ← next_or (algorithm_fault fields.Signature) (whole fields.Signature) wants.Sequence serial
  issuer ← next_or (name_fault fields.Issuer) (whole fields.Issuer) wants.Sequence signature
  validity ← next_or validity_fault (whole fields.Validity) wants.Sequence issuer
  subject ← next_or (name_fault fields.Subject) (whole fields.Subject) wants.Sequence validity
  key ← next_or key_fault (whole fields.SubjectPublicKeyInfo) wants.Sequence subject
  issuer_id ← id_or fields.IssuerUniqueId 1 version.0 key
  subject_id ← id_or fields.SubjectUniqueId 2 version.0 issuer_id
  Ok (version.0 == 2, subject_id)

-- the INTEGER 1, or no INTEGER (RFC 5280, 5.1.2.1)
abbrev pub one_or : List ℕ → ℕ → Rest → Outcome (Option ℕ × Rest)
one_or [] n rest = Err (unlike (whole fields.ListVersion) wants.VersionTwo n)
one_or (version ∷ []) n rest = if version == 1 then Ok (Some version, rest) else Err (unlike (whole fields.ListVersion) wants.VersionTwo n)
one_or (a ∷ b ∷ s) n rest = Err (unlike (whole fields.ListVersion) wants.VersionTwo n)

abbrev pub list_version_of : Option (List ℕ) → ℕ → Tree → Trees → Outcome (Option ℕ × Rest)
list_version_of None n t ts = Ok (None, (more t ts, n))
list_version_of (Some s) n t ts = one_or s n (ts, left_after n t)

abbrev pub list_version_in : ℕ → Trees → Outcome (Option ℕ × Rest)
list_version_in n none = Ok (None, (none, n))
list_version_in n (more t ts) = list_version_of (plain_at integer t) n t ts

-- a UTCTime or a GeneralizedTime, of any form that X.690 allows
abbrev pub is_time : Tree → Bool
is_time t = is_there (plain_at utc_time t) || is_there (plain_at generalized_time t)

-- nextUpdate: a time in the form of RFC 5280, 4.1.2.5, or none; a time in another form is no other field (RFC 5280, 5.1.2.5)
abbrev pub next_update_of : Bool → Bool → ℕ → Tree → Trees → Outcome Rest
next_update_of true _ n t ts = Ok (ts, left_after n t)
next_update_of false true n t ts = Err (unlike (whole fields.NextUpdate) wants.Time n)
next_update_of false false n t ts = Ok (more t ts, n)

abbrev pub next_update_in : ℕ → Trees → Outcome Rest
next_update_in n none = Ok (none, n)
next_update_in n (more t ts) = next_update_of (is_there (time_at t)) (is_time t) n t ts

-- revokedCertificates: one entry or more, or no SEQUENCE (RFC 5280, 5.1.2.6)
abbrev pub entries_of : Option Trees → Option ℕ → ℕ → Tree → Trees → Outcome Rest
entries_of None version n t ts = Ok (more t ts, n)
entries_of (Some parts) version n t ts = do
  first ← first_or (whole fields.RevokedCertificates) wants.OneEntry (parts, inside n t)
  ok ← each_in (entry_fault version) (inside n t) parts
  Ok (ts, left_after n t)

abbrev pub entries_in : Option ℕ → ℕ → Trees → Outcome Rest
entries_in version n none = Ok (none, n)
entries_in version n (more t ts) = entries_of (sequence_at t) version n t ts

unfoldable pub list_front : ℕ → Tree → Outcome Front
list_front n t = do
  all ← sequence_or (whole fields.TbsCertList) n t
  version ← list_version_in all.1 all.0
  signature ← next_or (algorithm_fault fields.ListSignature) (whole fields.ListSignature) wants.Sequence version.1
  issuer ← next_or (name_fault fields.ListIssuer) (whole fields.ListIssuer) wants.Sequence signature
  this_update ← next_or (time_fault (whole fields.ThisUpdate)) (whole fields.ThisUpdate) wants.Time issuer
  next_update ← next_update_in this_update.1 this_update.0
  entries ← entries_in version.0 next_update.1 next_update.0
  Ok (is_version_two version.0, entries)

-- Certificate and CertificateList alike: the first part up to its extensions, and the parts after the first one.
abbrev pub signed_front : Field → (ℕ → Tree → Outcome Front) → ℕ → Tree → Outcome (Front × Rest)
signed_front field front n t = do
  all ← sequence_or (whole fields.Item) n t
  first ← first_or (whole field) wants.Sequence all
  inner ← front all.1 first.0
  Ok (inner, first.1)

-- the parts after the extensions, and those after the first part
abbrev pub signed_end : Field → Rest → Rest → Outcome (Unit {0})
signed_end field inner outer = do
  over ← end_or (whole field) inner
  algorithm ← next_or (algorithm_fault fields.SignatureAlgorithm) (whole fields.SignatureAlgorithm) wants.Sequence outer
  value ← next_or (bits_fault (whole fields.SignatureValue)) (whole fields.SignatureValue) wants.BitString algorithm
  end_or (whole fields.Item) value

-- the first fault of the extensions in an element of this tag; `later` says whether the version has any (RFC 5280, 4.1.2.9 and 5.1.2.7)
pub data IsTaggedFault (field : Field) (tag : ℕ) (later : Bool) (r : Rest) (b : Blame) : Type 0 where
  early : (e : Element) → (tagged tag r).0 ≡ Some e → later ≡ false → b ≡ unlike (whole field) wants.LaterVersion r.1 → IsTaggedFault field tag later r b
  primitive : (e : Element) → (tagged tag r).0 ≡ Some e → later ≡ true → e.constructed ≡ false → b ≡ unlike (whole field) wants.Constructed r.1 →
      IsTaggedFault field tag later r b
  content : (e : Element) → (tagged tag r).0 ≡ Some e → later ≡ true → e.constructed ≡ true →
      IsObjectFault (λ t c. extensions_fault field (tagged tag r).1 t ≡ Err c) (whole field) e.content (tagged tag r).1 b → IsTaggedFault field tag later r b

-- the extensions in an element of this tag, or none, as the version has them
abbrev pub HasTagged : ℕ → Bool → Rest → Type 0
HasTagged tag later r = (es : List Extension) × AreExtensionsIn (tagged tag r).0 es × (implies (is_some es) later ≡ true)

-- The first fault of a certificate or of a list: before its extensions, in them, or after them.
pub data IsSignedFault (field : Field) (front : ℕ → Tree → Outcome Front) (extensions : Field) (tag : ℕ) (n : ℕ) (t : Tree) (b : Blame) : Type 0 where
  before : signed_front field front n t ≡ Err b → IsSignedFault field front extensions tag n t b
  within : (f : Front × Rest) → signed_front field front n t ≡ Ok f → IsTaggedFault extensions tag f.0.0 f.0.1 b →
      IsSignedFault field front extensions tag n t b
  after : (f : Front × Rest) → signed_front field front n t ≡ Ok f → HasTagged tag f.0.0 f.0.1 → signed_end field (tagged tag f.0.1).2 f.1 ≡ Err b →
      IsSignedFault field front extensions tag n t b

abbrev pub IsCertificateFault : ℕ → Tree → Blame → Type 0
IsCertificateFault = IsSignedFault fields.TbsCertificate certificate_front fields.Extensions 3

abbrev pub IsListFault : ℕ → Tree → Blame → Type 0
IsListFault = IsSignedFault fields.TbsCertList list_front fields.ListExtensions 0

-- whether a time is among some parts
abbrev pub has_time : Trees → Bool
has_time none = false
has_time (more t ts) = is_there (plain_at utc_time t) || is_there (plain_at generalized_time t) || has_time ts

abbrev pub has_time_in : Option Trees → Bool
has_time_in None = false
has_time_in (Some ts) = has_time ts

abbrev pub first_has_time : Option Trees → Bool
first_has_time None = false
first_has_time (Some none) = false
first_has_time (Some (more t ts)) = has_time_in (sequence_at t)

-- An object is meant as a list if a time is among the parts of its first part: each list has one there, and no certificate has.
abbrev pub means_list : Tree → Bool
means_list t = first_has_time (sequence_at t)
