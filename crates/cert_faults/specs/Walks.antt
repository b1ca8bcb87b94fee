-- The first fault of each part of the grammar (RFC 5280, 4.1 and 5.1), part by part in the order in which they are written. What a part may
-- be is said by the reads of `cert_model`.
use Rattle.std.specs.Prelude.{ℕ, List, Bool, true, false, Option, Some, None, Ok, Err}
use Rattle.der_tree.specs.Table.{octet_string}
use Rattle.der_tree.specs.Tree.{Tree, Trees, none, more, octets}
use Rattle.der_tree.specs.Access.{boolean_at, plain_at}
use Rattle.cert_model.specs.Range.{is_at_most}
use Rattle.cert_model.specs.Reads.{identifier_at, number_at, bits_at}
use Rattle.cert_model.specs.Times.{time_at}
use Rattle.cert_model.specs.Assembly.{is_version_two}
use Rattle.cert_faults.specs.declared.places.Field.{Field}
use Rattle.cert_faults.specs.declared.places.Field.TheVariants as fields
use Rattle.cert_faults.specs.declared.places.Part.TheVariants as parts
use Rattle.cert_faults.specs.declared.places.Expected.TheVariants as wants
use Rattle.cert_faults.specs.declared.steps.Place.{Place}
use Rattle.cert_faults.specs.Steps.{Outcome, ◌>>=◌, unlike, whole, within, left_after, Rest, check, test, sequence_or, set_or, first_or, end_or, next_or, each_in}

-- single elements

abbrev pub identifier_fault : Place → ℕ → Tree → Outcome (Unit {0})
identifier_fault place n t = check (unlike place wants.Identifier n) (identifier_at t)

abbrev pub number_fault : Place → ℕ → Tree → Outcome (Unit {0})
number_fault place n t = check (unlike place wants.NumberFromZero n) (number_at t)

abbrev pub bits_fault : Place → ℕ → Tree → Outcome (Unit {0})
bits_fault place n t = check (unlike place wants.BitString n) (bits_at t)

abbrev pub octets_fault : Place → ℕ → Tree → Outcome (Unit {0})
octets_fault place n t = check (unlike place wants.OctetString n) (plain_at octet_string t)

abbrev pub time_fault : Place → ℕ → Tree → Outcome (Unit {0})
time_fault place n t = check (unlike place wants.Time n) (time_at t)

-- any element
abbrev pub any_fault : ℕ → Tree → Outcome (Unit {0})
any_fault n t = Ok tt

-- AlgorithmIdentifier (RFC 5280, 4.1.1.2)

-- an element or nothing, to the end
abbrev pub last_in : Place → ℕ → Trees → Outcome (Unit {0})
last_in place n none = Ok tt
last_in place n (more t ts) = end_or place (ts, left_after n t)

unfoldable pub algorithm_fault : Field → ℕ → Tree → Outcome (Unit {0})
algorithm_fault field n t = do
  all ← sequence_or (whole field) n t
  rest ← next_or (identifier_fault (within field parts.Algorithm)) (within field parts.Algorithm) wants.Identifier all
  last_in (within field parts.Parameters) rest.1 rest.0

-- Name (RFC 5280, 4.1.2.4)

unfoldable pub attribute_fault : Field → ℕ → Tree → Outcome (Unit {0})
attribute_fault field n t = do
  all ← sequence_or (within field parts.Attribute) n t
  rest ← next_or (identifier_fault (within field parts.Type)) (within field parts.Type) wants.Identifier all
  over ← next_or any_fault (within field parts.Value) wants.AnyElement rest
  end_or (within field parts.Attribute) over

-- the octets of the attribute before, if there is one, are at most its own (X.690, 11.6)
abbrev pub ascending_fault : Field → Option (List ℕ) → ℕ → Tree → Outcome (Unit {0})
ascending_fault field None n t = Ok tt
ascending_fault field (Some s) n t = test (unlike (within field parts.Attribute) wants.Ascending n) (is_at_most s (octets t))

abbrev pub attributes_in : Field → Option (List ℕ) → ℕ → Trees → Outcome (Unit {0})
attributes_in field before n none = Ok tt
attributes_in field before n (more t ts) = do
  ordered ← ascending_fault field before n t
  ok ← attribute_fault field n t
  attributes_in field (Some (octets t)) (left_after n t) ts

unfoldable pub relative_name_fault : Field → ℕ → Tree → Outcome (Unit {0})
relative_name_fault field n t = do
  all ← set_or (within field parts.RelativeName) n t
  first ← first_or (within field parts.RelativeName) wants.OneAttribute all
  attributes_in field None all.1 all.0

unfoldable pub name_fault : Field → ℕ → Tree → Outcome (Unit {0})
name_fault field n t = do
  all ← sequence_or (whole field) n t
  each_in (relative_name_fault field) all.1 all.0

-- Validity (RFC 5280, 4.1.2.5)
unfoldable pub validity_fault : ℕ → Tree → Outcome (Unit {0})
validity_fault n t = do
  all ← sequence_or (whole fields.Validity) n t
  rest ← next_or (time_fault (whole fields.NotBefore)) (whole fields.NotBefore) wants.Time all
  over ← next_or (time_fault (whole fields.NotAfter)) (whole fields.NotAfter) wants.Time rest
  end_or (whole fields.Validity) over

-- SubjectPublicKeyInfo (RFC 5280, 4.1.2.7)
unfoldable pub key_fault : ℕ → Tree → Outcome (Unit {0})
key_fault n t = do
  all ← sequence_or (whole fields.SubjectPublicKeyInfo) n t
  rest ← next_or (algorithm_fault fields.KeyAlgorithm) (whole fields.KeyAlgorithm) wants.Sequence all
  over ← next_or (bits_fault (whole fields.SubjectPublicKey)) (whole fields.SubjectPublicKey) wants.BitString rest
  end_or (whole fields.SubjectPublicKeyInfo) over

-- Extensions (RFC 5280, 4.2)

-- a BOOLEAN that is true, or nothing (X.690, 11.5)
abbrev pub critical_of : Option Bool → Field → ℕ → Tree → Trees → Outcome Rest
critical_of None field n t ts = Ok (more t ts, n)
critical_of (Some true) field n t ts = Ok (ts, left_after n t)
critical_of (Some false) field n t ts = Err (unlike (within field parts.Critical) wants.TrueOrNothing n)

abbrev pub critical_in : Field → ℕ → Trees → Outcome Rest
critical_in field n none = Ok (none, n)
critical_in field n (more t ts) = critical_of (boolean_at t) field n t ts

unfoldable pub extension_fault : Field → ℕ → Tree → Outcome (Unit {0})
extension_fault field n t = do
  all ← sequence_or (within field parts.Extension) n t
  rest ← next_or (identifier_fault (within field parts.ExtnId)) (within field parts.ExtnId) wants.Identifier all
  last ← critical_in field rest.1 rest.0
  over ← next_or (octets_fault (within field parts.ExtnValue)) (within field parts.ExtnValue) wants.OctetString last
  end_or (within field parts.Extension) over

unfoldable pub extensions_fault : Field → ℕ → Tree → Outcome (Unit {0})
extensions_fault field n t = do
  all ← sequence_or (whole field) n t
  first ← first_or (whole field) wants.OneExtension all
  each_in (extension_fault field) all.1 all.0

-- an entry of revokedCertificates (RFC 5280, 5.1.2.6), in a list of this version

abbrev pub entry_extensions_in : Option ℕ → ℕ → Trees → Outcome (Unit {0})
entry_extensions_in version n none = Ok tt
entry_extensions_in version n (more t ts) = do
  later ← test (unlike (whole fields.EntryExtensions) wants.LaterVersion n) (is_version_two version)
  ok ← extensions_fault fields.EntryExtensions n t
  end_or (whole fields.Entry) (ts, left_after n t)

unfoldable pub entry_fault : Option ℕ → ℕ → Tree → Outcome (Unit {0})
entry_fault version n t = do
  all ← sequence_or (whole fields.Entry) n t
  rest ← next_or (number_fault (whole fields.UserCertificate)) (whole fields.UserCertificate) wants.NumberFromZero all
  last ← next_or (time_fault (whole fields.RevocationDate)) (whole fields.RevocationDate) wants.Time rest
  entry_extensions_in version last.1 last.0
