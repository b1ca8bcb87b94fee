-- The readers of this crate as functions on octets, with the refusals that are promised, in their
-- order. What they read is defined in `Leaves`, `Names` and `PublicKeys`; laws tie each function to
-- it.
use Rattle.std.specs.Prelude.{ℕ, ◌-◌, ◌||◌, if◌then◌else◌, List, [], ◌∷◌, length, take, Option, Some, None, option_map, Ok, Err, bytes_eq}
use Rattle.std.specs.Result.{result_ok}
use Rattle.asn1_core.specs.Elements.{Element}
use Rattle.asn1_any.specs.Cutting.{Piece}
use Rattle.x509_core.specs.asn1_traits.specs.IntegerReading.{is_shortest}
use Rattle.asn1_values.specs.Readers.{bits_at as bits_within, check_bits}
use Rattle.x509_core.specs.Answers.{Answer, unnamed, plain, naming, ◌>>=◌}
use Rattle.x509_core.specs.Reading.{Reader, piece_at, content_in, leaf_in, oid_in, next, many_of}
use Rattle.x509_core.specs.declared.error.X509Error.TheVariants as errors
pub use Rattle.x509_core.specs.Reading.{leaf_in}
use Rattle.x509_names.specs.Fields.{Algorithm, Attribute, Name, Bits, Key, RsaKey, KeyValue, rsa, ec, dsa, gost, gost_2012, unknown}
use Rattle.x509_objects.specs.Identifiers.{rsa_id, ec_id, dsa_id, gost_id, gost_2012_256_id, gost_2012_512_id}

-- an OBJECT IDENTIFIER at the front
abbrev pub oid_at : Reader (List ℕ)
oid_at = next (λ p. oid_in p.element)

-- an OCTET STRING
abbrev pub octets_in : Element → Answer (List ℕ)
octets_in = leaf_in 4

abbrev pub octets_at : Reader (List ℕ)
octets_at = next (λ p. octets_in p.element)

-- an INTEGER, as its content
abbrev pub shortest_of : List ℕ → Answer (List ℕ)
shortest_of content = if is_shortest content then Ok content else Err unnamed

abbrev pub integer_in : Element → Answer (List ℕ)
integer_in e = leaf_in 2 e >>= shortest_of

abbrev pub integer_at : Reader (List ℕ)
integer_at = next (λ p. integer_in p.element)

-- the bits of a content, as DER has them
unfoldable pub bits_of : List ℕ → Answer Bits
bits_of content = do
  allowed ← plain (result_ok (check_bits content))
  b ← plain (result_ok (bits_within content))
  Ok (record { unused = b.0; octets = b.1 })

-- a BIT STRING
abbrev pub bits_in : Element → Answer Bits
bits_in e = leaf_in 3 e >>= bits_of

abbrev pub bits_at : Reader Bits
bits_at = next (λ p. bits_in p.element)

-- none if no octet is left, else the next element
abbrev pub parameters_at : Reader (Option Element)
parameters_at [] = Ok (None, [])
parameters_at (x ∷ s) = do
  e ← piece_at (x ∷ s)
  Ok (Some e.0.element, e.1)

unfoldable pub algorithm_in : Element → Answer Algorithm
algorithm_in e = do
  content ← content_in 16 e
  o ← naming errors.InvalidAlgorithmIdentifier (oid_at content)
  p ← parameters_at o.1
  Ok (record { identifier = o.0; parameters = p.0 })

abbrev pub algorithm_at : Reader Algorithm
algorithm_at = next (λ p. algorithm_in p.element)

unfoldable pub attribute_in : Element → Answer Attribute
attribute_in e = do
  content ← content_in 16 e
  o ← naming errors.InvalidX509Name (oid_at content)
  v ← naming errors.InvalidX509Name (piece_at o.1)
  Ok (record { identifier = o.0; value = v.0.element })

abbrev pub attribute_at : Reader Attribute
attribute_at = next (λ p. attribute_in p.element)

-- one or more
abbrev pub some_of : {A : Type 0} → List A → Answer (List A)
some_of [] = Err unnamed
some_of (x ∷ xs) = Ok (x ∷ xs)

unfoldable pub relative_name_in : Element → Answer (List Attribute)
relative_name_in e = do
  content ← content_in 17 e
  some_of (many_of attribute_at content).0

abbrev pub relative_name_at : Reader (List Attribute)
relative_name_at = next (λ p. relative_name_in p.element)

-- the window ends where the inner reader stopped
abbrev pub window_to : List ℕ → List ℕ → List ℕ
window_to octets left = take (length octets - length left) octets

unfoldable pub name_in : Piece → Answer Name
name_in p = do
  content ← content_in 16 p.element
  let found = many_of relative_name_at content
  Ok (record { sets = found.0; raw = window_to p.octets found.1 })

abbrev pub name_at : Reader Name
name_at = next name_in

unfoldable pub key_in : Piece → Answer Key
key_in p = do
  content ← content_in 16 p.element
  a ← algorithm_at content
  k ← naming errors.InvalidSPKI (bits_at a.1)
  Ok (record { algorithm = a.0; key = k.0; raw = window_to p.octets k.1 })

abbrev pub key_at : Reader Key
key_at = next key_in

unfoldable pub rsa_key_in : Element → Answer RsaKey
rsa_key_in e = do
  content ← content_in 16 e
  m ← integer_at content
  x ← integer_at m.1
  Ok (record { modulus = m.0; exponent = x.0 })

abbrev pub rsa_key_at : Reader RsaKey
rsa_key_at i = naming errors.InvalidSPKI (next (λ p. rsa_key_in p.element) i)

-- what was read, if something was
abbrev pub value_of : {A : Type 0} → Answer (A × List ℕ) → Option A
value_of read = option_map (λ z. z.0) (result_ok read)

-- what a key's octets are, by the identifier of its algorithm
unfoldable pub key_value_of : List ℕ → List ℕ → Option KeyValue
key_value_of identifier octets =
    if bytes_eq identifier rsa_id then option_map rsa (value_of (rsa_key_at octets))
    else (if bytes_eq identifier ec_id then Some (ec octets)
    else (if bytes_eq identifier dsa_id then option_map dsa (value_of (integer_at octets))
    else (if bytes_eq identifier gost_id then option_map gost (value_of (octets_at octets))
    else (if bytes_eq identifier gost_2012_256_id || bytes_eq identifier gost_2012_512_id then option_map gost_2012 (value_of (octets_at octets))
    else Some (unknown octets)))))
