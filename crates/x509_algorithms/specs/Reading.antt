-- The readers of this crate as functions on octets. What they read is defined in `Parameters` and
-- `Signatures`; laws tie each function to it.
use Rattle.std.specs.Prelude.{ℕ, ◌==◌, ◌&&◌, if◌then◌else◌, List, [], ◌∷◌, Option, Some, None, Ok, Err}
use Rattle.asn1_core.specs.Elements.{Element}
use Rattle.asn1_core.specs.Strict.{Head}
use Rattle.asn1_any.specs.Cutting.{Piece}
use Rattle.x509_core.specs.Answers.{Answer, unnamed, ◌>>=◌}
use Rattle.x509_core.specs.Reading.{Reader, piece_at, front_header_at, content_in, oid_in, next}
use Rattle.x509_ext_flags.specs.Reading.{tagged_number_in}
use Rattle.x509_items.specs.Reading.{sequence_of, oid_at}
use Rattle.x509_names.specs.Fields.{Algorithm}
use Rattle.x509_names.specs.Reading.{integer_at, algorithm_at}
use Rattle.x509_algorithms.specs.Values as values

unfoldable pub ecdsa_parts_at : Reader values.EcdsaSigValue
ecdsa_parts_at i = do
  r ← integer_at i
  s ← integer_at r.1
  Ok (record { r = r.0; s = s.0 }, s.1)

abbrev pub ecdsa_in : Piece → Answer values.EcdsaSigValue
ecdsa_in = sequence_of ecdsa_parts_at

abbrev pub ecdsa_at : Reader values.EcdsaSigValue
ecdsa_at = next ecdsa_in

-- the content under a tag of the context class, and the octets after it; or none, and all octets
abbrev pub content_or_none : ℕ → List ℕ → Element → List ℕ → Answer (Option (List ℕ) × List ℕ)
content_or_none n i e rest = if e.tag == n then (if e.class == 2 then Ok (Some e.content, rest) else Err unnamed) else Ok (None, i)

unfoldable pub tagged_content : ℕ → Reader (Option (List ℕ))
tagged_content n [] = Ok (None, [])
tagged_content n (x ∷ i) = do
  e ← piece_at (x ∷ i)
  content_or_none n (x ∷ i) e.0.element e.1

-- what an optional content begins with
abbrev pub inner_at : {A : Type 0} → Reader A → Option (List ℕ) → Answer (Option A)
inner_at p None = Ok None
inner_at p (Some content) = do
  v ← p content
  Ok (Some v.0)

abbrev pub tagged_at : {A : Type 0} → ℕ → Reader A → Reader (Option A)
tagged_at n p i = do
  content ← tagged_content n i
  v ← inner_at p content.0
  Ok (v, content.1)

-- the content of an element under an explicit tag
abbrev pub explicit_in : ℕ → Element → Answer (List ℕ)
explicit_in n e = if (e.class == 2 && e.constructed) && e.tag == n then Ok e.content else Err unnamed

abbrev pub explicit_behind : ℕ → List ℕ → Head → Answer (Option (List ℕ) × List ℕ)
explicit_behind n i h = if h.tag == n then (piece_at i >>= λ e. explicit_in n e.0.element >>= λ content. Ok (Some content, e.1)) else Ok (None, i)

unfoldable pub explicit_content : ℕ → Reader (Option (List ℕ))
explicit_content n [] = Ok (None, [])
explicit_content n (x ∷ i) = do
  h ← front_header_at (x ∷ i)
  explicit_behind n (x ∷ i) h.0

abbrev pub explicit_by : {A : Type 0} → ℕ → Reader A → Reader (Option A)
explicit_by n p i = do
  content ← explicit_content n i
  v ← inner_at p content.0
  Ok (v, content.1)

-- INTEGER of 32 bits
abbrev pub number_at : Reader ℕ
number_at = next (tagged_number_in 2)

unfoldable pub pss_parts_at : Reader values.RsaSsaPssParams
pss_parts_at i = do
  hash ← tagged_at 0 algorithm_at i
  mask ← tagged_at 1 algorithm_at hash.1
  salt ← explicit_by 2 number_at mask.1
  trailer ← explicit_by 3 number_at salt.1
  Ok (record { hash_alg = hash.0; mask_gen_algorithm = mask.0; salt_length = salt.0; trailer_field = trailer.0 }, trailer.1)

unfoldable pub oaep_parts_at : Reader values.RsaAesOaepParams
oaep_parts_at i = do
  hash ← tagged_at 0 algorithm_at i
  mask ← tagged_at 1 algorithm_at hash.1
  source ← tagged_at 2 algorithm_at mask.1
  Ok (record { hash_alg = hash.0; mask_gen_alg = mask.0; p_source_alg = source.0 }, source.1)

-- what an element of tag number 16 holds
abbrev pub parameters_of : {A : Type 0} → Reader A → Element → Answer A
parameters_of p e = do
  content ← content_in 16 e
  v ← p content
  Ok v.0

-- what a constructed element of tag number 16 holds
abbrev pub parameters_in : {A : Type 0} → Reader A → Piece → Answer A
parameters_in p piece = if piece.element.constructed then parameters_of p piece.element else Err unnamed

abbrev pub pss_in : Piece → Answer values.RsaSsaPssParams
pss_in = parameters_in pss_parts_at

abbrev pub pss_at : Reader values.RsaSsaPssParams
pss_at = next pss_in

abbrev pub oaep_in : Piece → Answer values.RsaAesOaepParams
oaep_in = parameters_in oaep_parts_at

abbrev pub oaep_at : Reader values.RsaAesOaepParams
oaep_at = next oaep_in
