-- How names, moments and identifiers are shown. This page is to be believed.
use Rattle.std.specs.Prelude.{ℕ, ◌==◌, ◌&&◌, not, nat_le, nat_lt, Bool, if◌then◌else◌, List, [], ◌∷◌, ◌++◌, codes, Option, Some, None, Ok, Err, bytes_eq, slice_get}
use Rattle.std.specs.List.{flat_map}
use Rattle.jiff_fmt.specs.Text.{pad2, year_text, fraction_part}
use Rattle.asn1_oid.specs.Text.{oid_text}
use Rattle.cert_model.specs.Fields.{CivilTime, Extension}
use Rattle.x509_core.specs.Answers.{Answer}
use Rattle.x509_names.specs.Fields.{Name}
use Rattle.x509_names.specs.NameTexts.{known_label, name_text, upper_pair, upper_hex}
use Rattle.x509_names.specs.Reading.{name_at}

-- an octet that is shown as itself: printable ASCII other than the backslash
abbrev pub is_plain : ℕ → Bool
is_plain octet = nat_le 32 octet && (nat_lt octet 127 && not (octet == 92))

-- any other octet is shown as a backslash and two hexadecimal digits, `\0A`
abbrev pub escaped_octet : ℕ → List ℕ
escaped_octet octet = if is_plain octet then octet ∷ [] else 92 ∷ upper_pair octet

abbrev pub escaped : List ℕ → List ℕ
escaped octets = flat_map escaped_octet octets

-- a name without attributes is shown as `(empty)`
abbrev pub text_or_empty : List ℕ → List ℕ
text_or_empty [] = codes "(empty)"
text_or_empty (octet ∷ octets) = escaped (octet ∷ octets)

-- a name that has no text is shown by its octets, as `#300F`
abbrev pub text_or_octets : List ℕ → Option (List ℕ) → List ℕ
text_or_octets octets (Some text) = text_or_empty text
text_or_octets octets None = 35 ∷ upper_hex octets

-- the text of a name that takes up all the octets
abbrev pub whole_text : List ℕ → Answer (Name × List ℕ) → Option (List ℕ)
whole_text octets (Ok read) = if bytes_eq read.0.raw octets then name_text known_label read.0 else None
whole_text octets (Err why) = None

-- a name, by its octets (RFC 5280, 4.1.2.4): only printable ASCII and no line feed
abbrev pub shown_name : List ℕ → List ℕ
shown_name octets = text_or_octets octets (whole_text octets (name_at octets))

-- a moment in UTC, `2026-06-01T00:00:00`
abbrev pub shown_moment : CivilTime → List ℕ
shown_moment t =
    (year_text t.year ++ 45 ∷ [] ++ pad2 t.month ++ 45 ∷ [] ++ pad2 t.day)
    ++ 84 ∷ (pad2 t.hour ++ 58 ∷ pad2 t.minute ++ 58 ∷ pad2 t.second ++ fraction_part None t.nanosecond)

abbrev pub identifier_of : Option Extension → List ℕ
identifier_of (Some e) = e.identifier
identifier_of None = []

-- the identifier of the extension at a position, `2.5.29.37`
abbrev pub shown_identifier : List Extension → ℕ → List ℕ
shown_identifier es k = oid_text (identifier_of (slice_get es k))
