-- The readers of revocation lists as functions on octets, with the refusals that are promised, in their order. What they read
-- is defined in `Lists`; laws tie each function to it.
use Rattle.std.specs.Prelude.{ℕ, ◌==◌, if◌then◌else◌, List, [], Option, Some, None, Ok, Err}
use Rattle.asn1_core.specs.Elements.{Element}
use Rattle.asn1_any.specs.Cutting.{Piece}
use Rattle.x509_core.specs.Answers.{Answer, plain, naming, ◌>>=◌}
use Rattle.x509_core.specs.Reading.{Reader, piece_at, content_in, next, many_of}
use Rattle.x509_core.specs.declared.error.X509Error.TheVariants as errors
use Rattle.x509_names.specs.Reading.{algorithm_at, name_at, bits_at}
use Rattle.x509_time.specs.Reading.{time_at, next_update_at}
use Rattle.x509_ext.specs.Fields.{Extension, ValueReading}
use Rattle.x509_ext.specs.Reading.{version_in, serial_at, to_end, extension_list_in, extensions_at}
use Rattle.x509_lists.specs.Fields.{Entry, TbsList, RevocationList}
use Rattle.x509_lists.specs.Lists.{or_none}

-- a part, or nothing and nothing read
abbrev pub or_nothing : {A : Type 0} → List ℕ → Answer (A × List ℕ) → Option A × List ℕ
or_nothing i (Ok x) = (Some x.0, x.1)
or_nothing i (Err e) = (None, i)

abbrev pub maybe_at : {A : Type 0} → Reader A → List ℕ → Option A × List ℕ
maybe_at p i = or_nothing i (p i)

-- a version, by itself
abbrev pub number_at : Reader ℕ
number_at = next (λ p. plain (version_in p.element))

unfoldable pub version_at : List ℕ → Option ℕ × List ℕ
version_at i = maybe_at number_at i

-- the extensions of an entry
abbrev pub entry_list_at : ValueReading → Reader (List Extension)
entry_list_at parse = next (λ p. extension_list_in parse p.element)

abbrev pub listed : {A : Type 0} → Option (List A) × List ℕ → List A × List ℕ
listed o = (or_none o.0, o.1)

-- none, and nothing read, if they can't be read
unfoldable pub entry_extensions_at : ValueReading → List ℕ → List Extension × List ℕ
entry_extensions_at parse i = listed (maybe_at (entry_list_at parse) i)

unfoldable pub entry_in : ValueReading → Element → Answer Entry
entry_in parse e = do
  content ← content_in 16 e
  serial ← naming errors.InvalidSerial (serial_at content)
  date ← time_at serial.1
  Ok (record { serial = serial.0; date = date.0; extensions = (entry_extensions_at parse date.1).0 })

abbrev pub entry_at : ValueReading → Reader Entry
entry_at parse = next (λ p. entry_in parse p.element)

-- entries to the end of the content
unfoldable pub entries_in : ValueReading → Element → Answer (List Entry)
entries_in parse e = do
  content ← content_in 16 e
  to_end (many_of (entry_at parse) content)

-- Entries, if an element of their tag number is next. If they can't be read nothing else can be
-- there: extensions begin with another tag number.
abbrev pub entries_behind : ValueReading → List ℕ → Piece × List ℕ → Answer (List Entry × List ℕ)
entries_behind parse i p = if p.0.element.tag == 16 then (naming errors.InvalidExtensions (entries_in parse p.0.element) >>= λ es. Ok (es, p.1)) else Ok ([], i)

abbrev pub entries_by : ValueReading → List ℕ → Answer (Piece × List ℕ) → Answer (List Entry × List ℕ)
entries_by parse i (Err e) = Ok ([], i)
entries_by parse i (Ok p) = entries_behind parse i p

unfoldable pub entries_at : ValueReading → Reader (List Entry)
entries_at parse i = entries_by parse i (piece_at i)

unfoldable pub tbs_in : ValueReading → Piece → Answer TbsList
tbs_in parse p = do
  content ← content_in 16 p.element
  let version = version_at content
  signature ← algorithm_at version.1
  issuer ← name_at signature.1
  this_update ← time_at issuer.1
  next_update ← next_update_at this_update.1
  entries ← entries_at parse next_update.1
  extensions ← extensions_at parse 0 entries.1
  Ok (record { version = version.0; signature = signature.0; issuer = issuer.0; this_update = this_update.0; next_update = next_update.0; entries = entries.0; extensions = extensions; raw = p.octets })

-- a signed part at the front of octets
abbrev pub tbs_at : ValueReading → Reader TbsList
tbs_at parse = next (tbs_in parse)

unfoldable pub list_in : ValueReading → Piece → Answer RevocationList
list_in parse p = do
  content ← content_in 16 p.element
  tbs ← tbs_at parse content
  algorithm ← algorithm_at tbs.1
  signature_value ← naming errors.InvalidSignatureValue (bits_at algorithm.1)
  Ok (record { tbs = tbs.0; algorithm = algorithm.0; signature_value = signature_value.0; raw = p.octets })

-- a revocation list at the front of octets
abbrev pub list_at : ValueReading → Reader RevocationList
list_at parse = next (list_in parse)
