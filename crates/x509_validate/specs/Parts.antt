-- What is said of a certificate's version, serial number and times.
use Rattle.std.specs.Prelude.{ℕ, Bool, ◌==◌, ◌&&◌, not, nat_lt, if◌then◌else◌, codes, List, [], ◌∷◌, ◌++◌}
use Rattle.x509_time.specs.Calls.{is_late}
use Rattle.x509_time.specs.declared.time.ASN1Time.{ASN1Time}
use Rattle.x509_time.specs.declared.validity.Validity.{Validity}
use Rattle.x509_validate.specs.Messages.{Message, message, warning, fatal}
use Rattle.x509_validate.specs.Names.{is_high}

-- versions are 0 to 2 (RFC 5280, 4.1.2.1)
abbrev pub version_messages : ℕ → List Message
version_messages version = if nat_lt 2 version then message fatal (codes "Invalid version") ∷ [] else []

-- a first octet 00 that the sign doesn't ask for (X.690, 8.3.2)
abbrev pub leading_messages : ℕ → List ℕ → List Message
leading_messages first [] = []
leading_messages first (second ∷ octets) = if (first == 0) && not (is_high second) then message warning (codes "Leading zeroes in serial number") ∷ [] else []

-- serial numbers are positive (RFC 5280, 4.1.2.2); the octets are the content of the number
abbrev pub serial_messages : List ℕ → List Message
serial_messages [] = message fatal (codes "Serial is empty") ∷ []
serial_messages (first ∷ octets) = if is_high first then message warning (codes "Serial number is negative") ∷ [] else leading_messages first octets

-- a time up to 2049 is a UTCTime, any later one a GeneralizedTime (RFC 5280, 4.1.2.5)
abbrev pub time_messages : List ℕ → List ℕ → ASN1Time → List Message
time_messages early late t =
    if t.generalized
    then (if is_late t.time then [] else message warning early ∷ [])
    else (if is_late t.time then message warning late ∷ [] else [])

abbrev pub validity_messages : Validity → List Message
validity_messages v =
    time_messages (codes "year <= 2049 should use UTCTime (notBefore)") (codes "year >= 2050 should use GeneralizedTime (notBefore)") v.not_before
    ++ time_messages (codes "year <= 2049 should use UTCTime (notAfter)") (codes "year >= 2050 should use GeneralizedTime (notAfter)") v.not_after
