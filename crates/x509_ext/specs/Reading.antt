-- The readers of this crate as functions on octets, with the refusals that are promised, in their
-- order. What they read is defined in `Extensions` and `Parts`; laws tie each function to it.
use Rattle.std.specs.Prelude.{ℕ, ◌==◌, ◌||◌, not, Bool, false, if◌then◌else◌, List, [], ◌∷◌, Option, Some, None, Ok, Err}
use Rattle.asn1_core.specs.Elements.{Element}
use Rattle.asn1_core.specs.Strict.{Head}
use Rattle.asn1_any.specs.Cutting.{Piece}
use Rattle.x509_core.specs.Answers.{Answer, named, unnamed, plain, naming, ◌>>=◌}
use Rattle.x509_core.specs.Reading.{Reader, piece_at, front_header_at, content_in, next, many_of}
use Rattle.x509_core.specs.declared.error.X509Error.TheVariants as errors
use Rattle.x509_ext_parse.specs.x509_ext_flags.specs.Reading.{number_in}
use Rattle.x509_names.specs.Fields.{Bits}
use Rattle.x509_names.specs.Reading.{octets_in, oid_at, bits_of}
use Rattle.x509_ext.specs.Fields.{Extension, ValueReading}

-- BOOLEAN: one octet, any but 0 being true
abbrev pub boolean_of : List ℕ → Option Bool
boolean_of [] = None
boolean_of (x ∷ []) = Some (not (x == 0))
boolean_of (x ∷ y ∷ s) = None

abbrev pub boolean_in : Element → Option Bool
boolean_in e = if not (e.tag == 1) || e.constructed then None else boolean_of e.content

-- a BOOLEAN at the front, or false and nothing read
abbrev pub critical_by : Option Bool → List ℕ → List ℕ → Bool × List ℕ
critical_by None i r = (false, i)
critical_by (Some b) i r = (b, r)

abbrev pub critical_from : Answer (Piece × List ℕ) → List ℕ → Bool × List ℕ
critical_from (Err e) i = (false, i)
critical_from (Ok p) i = critical_by (boolean_in p.0.element) i p.1

unfoldable pub critical_at : List ℕ → Bool × List ℕ
critical_at i = critical_from (piece_at i) i

-- an extension, its value parsed so
unfoldable pub extension_in : ValueReading → Element → Answer Extension
extension_in parse e = do
  content ← content_in 16 e
  o ← oid_at content
  let c = critical_at o.1
  v ← next (λ p. octets_in p.element) c.1
  Ok (record { identifier = o.0; critical = c.0; value = v.0; parsed = parse o.0 v.0 })

abbrev pub extension_at : ValueReading → Reader Extension
extension_at parse = next (λ p. extension_in parse p.element)

-- an extension by itself
abbrev pub named_extension_at : ValueReading → Reader Extension
named_extension_at parse i = naming errors.InvalidExtensions (extension_at parse i)

-- nothing is left
abbrev pub to_end : {A : Type 0} → A × List ℕ → Answer A
to_end (v, []) = Ok v
to_end (v, x ∷ s) = Err unnamed

-- extensions to the end of the content
unfoldable pub extension_list_in : ValueReading → Element → Answer (List Extension)
extension_list_in parse e = do
  content ← content_in 16 e
  to_end (many_of (extension_at parse) content)

-- such a list, to the end
unfoldable pub extension_list_at : ValueReading → List ℕ → Answer (List Extension)
extension_list_at parse i = do
  v ← next (λ p. extension_list_in parse p.element) i
  to_end v

-- after the wrapper's header, whose length isn't used
abbrev pub wrapped_at : ValueReading → ℕ → Head × List ℕ → Answer (List Extension)
wrapped_at parse n h = if h.0.tag == n then extension_list_at parse h.1 else Err (named errors.InvalidExtensions)

-- extensions under this tag number, to the end; none if no octet is left
abbrev pub extensions_at : ValueReading → ℕ → List ℕ → Answer (List Extension)
extensions_at parse n [] = Ok []
extensions_at parse n (x ∷ s) = naming errors.InvalidExtensions (front_header_at (x ∷ s)) >>= wrapped_at parse n

-- an INTEGER of 32 bits without a sign, in the fewest octets
unfoldable pub version_in : Element → Option ℕ
version_in e = if not (e.tag == 2) || e.constructed then None else number_in e.content

-- a version by itself
abbrev pub version_at : Reader ℕ
version_at i = naming errors.InvalidVersion (next (λ p. plain (version_in p.element)) i)

-- what [0] holds; what is left of its content is ignored
unfoldable pub tagged_version_in : Element → Answer ℕ
tagged_version_in e = if e.class == 2 then (next (λ p. plain (version_in p.element)) e.content >>= λ v. Ok v.0) else Err unnamed

-- a certificate's version: 0 if no octet is left, or the element has another tag number
abbrev pub version_behind : List ℕ → Piece × List ℕ → Answer (ℕ × List ℕ)
version_behind i p = if p.0.element.tag == 0 then (tagged_version_in p.0.element >>= λ v. Ok (v, p.1)) else Ok (0, i)

abbrev pub any_version_at : Reader ℕ
any_version_at [] = Ok (0, [])
any_version_at (x ∷ s) = piece_at (x ∷ s) >>= version_behind (x ∷ s)

-- a serial number: any content
abbrev pub serial_at : Reader (List ℕ)
serial_at = next (λ p. content_in 2 p.element)

-- [n] IMPLICIT BIT STRING
abbrev pub implicit_bits_in : Element → Answer Bits
implicit_bits_in e = if not (e.class == 2) || e.constructed then Err unnamed else bits_of e.content

-- a unique identifier of this tag number, or none: if no octet is left, or the header has another
-- tag number
abbrev pub id_behind : ℕ → List ℕ → Head × List ℕ → Answer (Option Bits × List ℕ)
id_behind n i h = if h.0.tag == n then (next (λ p. implicit_bits_in p.element) i >>= λ v. Ok (Some v.0, v.1)) else Ok (None, i)

abbrev pub id_at : ℕ → Reader (Option Bits)
id_at n [] = Ok (None, [])
id_at n (x ∷ s) = front_header_at (x ∷ s) >>= id_behind n (x ∷ s)
