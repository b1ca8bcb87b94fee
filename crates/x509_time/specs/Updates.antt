-- The time of a list's next update, or that there is none (RFC 5280, 5.1.2.5).
use Rattle.std.specs.Prelude.{◌≡◌, ◌≢◌, ℕ, ◌+◌, ◌<◌, ◌≤◌, Bool, List, [], ◌∷◌, map, Option, Some, None}
use Rattle.std.specs.Int.Digits.{AllBelowBase}
use Rattle.asn1_any.specs.Cutting.{Piece}
use Rattle.asn1_core.specs.Strict.{Head, lead}
use Rattle.asn1_times.specs.declared.datetime.ASN1DateTime.{ASN1DateTime}
use Rattle.x509_core.specs.Grammar.{NoneBegins, Header, One}
use Rattle.x509_core.specs.Leaves.{Leaf}
use Rattle.x509_time.specs.Times.{Time, GeneralContent, ASN1Time}

-- a GeneralizedTime of DER; whether the calendar has its date isn't asked
abbrev pub IsGeneralTime : Piece → ASN1DateTime → Type 0
IsGeneralTime piece t = Leaf 24 GeneralContent piece t

-- the octets end within a tag number of the high form: none after the first is below 128 (X.690,
-- 8.1.2.4)
pub record IsCutTag (octets : List ℕ) : Type 0 where
  pub class : ℕ
  pub constructed : Bool
  pub digits : List ℕ
  pub is_class : class < 4
  pub below : AllBelowBase 128 digits
  pub whole : octets ≡ lead class constructed 31 ∷ map (λ d. 128 + d) digits

-- a header of another tag number than those of a Time, or of GeneralizedTime's if none begins the
-- octets. What it counts needn't be there, but is no more than the greatest object has.
pub record IsNoTime (octets : List ℕ) : Type 0 where
  pub head : Head
  pub after_header : List ℕ
  pub header : Header octets head after_header
  pub size : head.size ≤ 4_294_967_295
  pub no_utc_time : head.tag ≢ 23
  pub no_general_time : head.tag ≡ 24 → NoneBegins (One IsGeneralTime) octets

-- nextUpdate Time OPTIONAL (RFC 5280, 5.1)
pub data NextUpdate (octets : List ℕ) (v : Option Time) (rest : List ℕ) : Type 0 where
  there : (t : Time) → v ≡ Some t → ASN1Time octets t rest → NextUpdate octets v rest
  at_end : octets ≡ [] → v ≡ None → rest ≡ octets → NextUpdate octets v rest
  cut_tag : IsCutTag octets → v ≡ None → rest ≡ octets → NextUpdate octets v rest
  no_time : IsNoTime octets → v ≡ None → rest ≡ octets → NextUpdate octets v rest
