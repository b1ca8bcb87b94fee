-- The readers of this crate as functions on octets. What they read is defined in `Timestamps`; laws
-- tie each function to it. None of their refusals is promised by its error.
use Rattle.std.specs.Prelude.{ℕ, ◌+◌, ◌*◌, ◌^◌, nat_lt, if◌then◌else◌, List, [], ◌∷◌, length, take, drop, Ok, Err}
use Rattle.std.specs.Int.Digits.{number_from_digits}
use Rattle.asn1_core.specs.Elements.{Element}
use Rattle.x509_core.specs.Answers.{Answer, unnamed, ◌>>=◌}
use Rattle.x509_core.specs.Reading.{Reader, leaf_in, next, many_of}
use Rattle.x509_ext_sct.specs.Values as values

-- so many octets
unfoldable pub fixed_at : ℕ → Reader (List ℕ)
fixed_at n i = if nat_lt (length i) n then Err unnamed else Ok (take n i, drop n i)

-- a length in two octets, and so many octets
unfoldable pub opaque_at : Reader (List ℕ)
opaque_at [] = Err unnamed
opaque_at (high ∷ []) = Err unnamed
opaque_at (high ∷ low ∷ s) = fixed_at (high * 256 + low) s

unfoldable pub octet_at : Reader ℕ
octet_at [] = Err unnamed
octet_at (x ∷ s) = Ok (x, s)

abbrev pub fitting : List ℕ × List ℕ → Answer (ℕ × List ℕ)
fitting t = if nat_lt (number_from_digits 256 t.0) (2 ^ 64) then Ok (number_from_digits 256 t.0, t.1) else Err unnamed

-- a number of eight octets
unfoldable pub time_at : Reader ℕ
time_at i = fixed_at 8 i >>= fitting

unfoldable pub signed_at : Reader values.DigitallySigned
signed_at i = do
  hash ← octet_at i
  sign ← octet_at hash.1
  content ← opaque_at sign.1
  Ok (record { hash_alg_id = hash.0; sign_alg_id = sign.0; content = content.0 }, content.1)

unfoldable pub parts_at : Reader values.SignedCertificateTimestamp
parts_at i = do
  version ← octet_at i
  id ← fixed_at 32 version.1
  time ← time_at id.1
  extensions ← opaque_at time.1
  signature ← signed_at extensions.1
  Ok (record { version = version.0; id = id.0; timestamp = time.0; extensions = extensions.0; signature = signature.0 }, signature.1)

abbrev pub timestamp_at : Reader values.SignedCertificateTimestamp
timestamp_at i = do
  inner ← opaque_at i
  t ← parts_at inner.0
  Ok (t.0, inner.1)

abbrev pub none_refused : List values.SignedCertificateTimestamp → Answer (List values.SignedCertificateTimestamp)
none_refused [] = Err unnamed
none_refused (t ∷ ts) = Ok (t ∷ ts)

-- as many as begin there, one at least
abbrev pub some_timestamps_in : List ℕ → Answer (List values.SignedCertificateTimestamp)
some_timestamps_in i = none_refused (many_of timestamp_at i).0

abbrev pub timestamps_in : List ℕ → Answer (List values.SignedCertificateTimestamp)
timestamps_in content = do
  inner ← opaque_at content
  some_timestamps_in inner.0

abbrev pub element_timestamps : Element → Answer (List values.SignedCertificateTimestamp)
element_timestamps e = leaf_in 4 e >>= timestamps_in

abbrev pub list_at : Reader (List values.SignedCertificateTimestamp)
list_at = next (λ p. element_timestamps p.element)
