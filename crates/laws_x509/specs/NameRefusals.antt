-- What each name means by which a reading of algorithms, names and keys refuses octets (RFC 5280, 4.1). By a name that a table
-- leaves out nothing is refused.
use Rattle.std.specs.Prelude.{◌⊎◌, ℕ, List}
use Rattle.x509_core.specs.Grammar.{NoneBegins, One}
use Rattle.x509_core.specs.declared.error.X509Error.{X509Error}
use Rattle.x509_core.specs.declared.error.X509Error.TheVariants as errors
use Rattle.x509_names.specs.Leaves.{IsOid, IsAny, IsBits}
use Rattle.x509_names.specs.Names.{AlgorithmIdentifier}
use Rattle.x509_names.specs.PublicKeys.{RSAPublicKey}
use Rattle.laws_x509.specs.Refused.{Then, Inside, Never}

-- a SEQUENCE that no OBJECT IDENTIFIER begins, as it begins an AlgorithmIdentifier (RFC 5280, 4.1.1.2)
abbrev pub NoIdentifier : List ℕ → Type 0
NoIdentifier = Inside 16 (NoneBegins (One IsOid))

abbrev pub AlgorithmRefused : X509Error → List ℕ → Type 0
AlgorithmRefused errors.InvalidAlgorithmIdentifier = NoIdentifier
AlgorithmRefused e = Never

-- a SEQUENCE that no OBJECT IDENTIFIER begins, or one after which no element comes (RFC 5280, 4.1.2.4)
abbrev pub NoAttribute : List ℕ → Type 0
NoAttribute = Inside 16 (λ content. NoneBegins (One IsOid) content ⊎ Then (One IsOid) (NoneBegins (One IsAny)) content)

abbrev pub AttributeRefused : X509Error → List ℕ → Type 0
AttributeRefused errors.InvalidX509Name = NoAttribute
AttributeRefused e = Never

-- a SEQUENCE that an algorithm begins, and no BIT STRING comes after it (RFC 5280, 4.1.2.7)
abbrev pub NoKeyBits : List ℕ → Type 0
NoKeyBits = Inside 16 (Then AlgorithmIdentifier (NoneBegins (One IsBits)))

abbrev pub KeyRefused : X509Error → List ℕ → Type 0
KeyRefused errors.InvalidAlgorithmIdentifier = Inside 16 NoIdentifier
KeyRefused errors.InvalidSPKI = NoKeyBits
KeyRefused e = Never

-- an RSA key by itself has one name (RFC 3279, 2.3.1)
abbrev pub RsaKeyRefused : X509Error → List ℕ → Type 0
RsaKeyRefused errors.InvalidSPKI = NoneBegins RSAPublicKey
RsaKeyRefused e = Never
