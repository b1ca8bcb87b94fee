-- What the calls on lists and entries return of the first extension of an identifier (RFC 5280,
-- 5.2.3, 5.3.1 and 5.3.2).
use Rattle.std.specs.Prelude.{ℕ, Bool, List, [], ◌∷◌, Option, Some, None}
use Rattle.asn1_unsigned.specs.declared.unsigned.UnsignedBytes.{UnsignedBytes}
use Rattle.x509_time.specs.declared.time.ASN1Time.{ASN1Time}
use Rattle.x509_ext.specs.Values.{ReasonCode, ParsedExtension}
use Rattle.x509_ext.specs.Lookup.{all_of}
use Rattle.x509_ext.specs.declared.extension.X509Extension.{X509Extension}
use Rattle.x509_ext.specs.Kinds as cases

-- id-ce-cRLNumber, 2.5.29.20
abbrev pub crl_number_id : List ℕ
crl_number_id = 0x55 ∷ 0x1d ∷ 0x14 ∷ []

-- id-ce-cRLReasons, 2.5.29.21
abbrev pub reason_code_id : List ℕ
reason_code_id = 0x55 ∷ 0x1d ∷ 0x15 ∷ []

-- id-ce-invalidityDate, 2.5.29.24
abbrev pub invalidity_date_id : List ℕ
invalidity_date_id = 0x55 ∷ 0x1d ∷ 0x18 ∷ []

-- what an extension was parsed as, if it is of this case
abbrev pub number_in : ParsedExtension → Option UnsignedBytes
number_in (cases.CRLNumber n) = Some n
number_in p = None

abbrev pub reason_in : Bool → ParsedExtension → Option (Bool × ReasonCode)
reason_in critical (cases.ReasonCode r) = Some (critical, r)
reason_in critical p = None

abbrev pub date_in : Bool → ParsedExtension → Option (Bool × ASN1Time)
date_in critical (cases.InvalidityDate t) = Some (critical, t)
date_in critical p = None

-- of the first extension, if there is one
abbrev pub of_first : {A : Type 0} → (X509Extension → Option A) → List X509Extension → Option A
of_first f [] = None
of_first f (e ∷ es) = f e

abbrev pub crl_number_of : List X509Extension → Option UnsignedBytes
crl_number_of extensions = of_first (λ e. number_in e.parsed_extension) (all_of crl_number_id extensions)

-- whether it is critical, and the value
abbrev pub reason_code_of : List X509Extension → Option (Bool × ReasonCode)
reason_code_of extensions = of_first (λ e. reason_in e.critical e.parsed_extension) (all_of reason_code_id extensions)

abbrev pub invalidity_date_of : List X509Extension → Option (Bool × ASN1Time)
invalidity_date_of extensions = of_first (λ e. date_in e.critical e.parsed_extension) (all_of invalidity_date_id extensions)
