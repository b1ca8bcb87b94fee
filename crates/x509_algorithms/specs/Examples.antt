-- Octets and what they are, written out by hand: they try the relations, not the code.
use Rattle.std.specs.Prelude.{ℕ, List, [], ◌∷◌, ◌++◌, true, Option, Some, None}
use Rattle.asn1_core.specs.Elements.{Element}
use Rattle.x509_names.specs.Fields.{Algorithm}
use Rattle.x509_algorithms.specs.Values as values

-- r is 1, s is 2
abbrev pub signature_octets : List ℕ
signature_octets = 0x30 ∷ 0x06 ∷ 0x02 ∷ 0x01 ∷ 0x01 ∷ 0x02 ∷ 0x01 ∷ 0x02 ∷ []

abbrev pub signature : values.EcdsaSigValue
signature = record { r = 0x01 ∷ []; s = 0x02 ∷ [] }

-- parameters that hold nothing
abbrev pub nothing_octets : List ℕ
nothing_octets = 0x30 ∷ 0x00 ∷ []

abbrev pub nothing_element : Element
nothing_element = record { class = 0; constructed = true; tag = 16; content = [] }

abbrev pub no_pss : values.RsaSsaPssParams
no_pss = record { hash_alg = None; mask_gen_algorithm = None; salt_length = None; trailer_field = None }

abbrev pub no_oaep : values.RsaAesOaepParams
no_oaep = record { hash_alg = None; mask_gen_alg = None; p_source_alg = None }

-- an algorithm without parameters
abbrev pub bare : List ℕ → Algorithm
bare identifier = record { identifier = identifier; parameters = None }

-- sha256WithRSAEncryption, 1.2.840.113549.1.1.11 (RFC 8017, appendix C)
abbrev pub sha256_with_rsa : List ℕ
sha256_with_rsa = 0x2a ∷ 0x86 ∷ 0x48 ∷ 0x86 ∷ 0xf7 ∷ 0x0d ∷ 0x01 ∷ 0x01 ∷ 0x0b ∷ []

-- id-RSAES-OAEP, 1.2.840.113549.1.1.7 (RFC 8017, A.2.1)
abbrev pub rsaes_oaep : List ℕ
rsaes_oaep = 0x2a ∷ 0x86 ∷ 0x48 ∷ 0x86 ∷ 0xf7 ∷ 0x0d ∷ 0x01 ∷ 0x01 ∷ 0x07 ∷ []

-- id-RSASSA-PSS, 1.2.840.113549.1.1.10 (RFC 8017, A.2.3)
abbrev pub rsassa_pss : List ℕ
rsassa_pss = 0x2a ∷ 0x86 ∷ 0x48 ∷ 0x86 ∷ 0xf7 ∷ 0x0d ∷ 0x01 ∷ 0x01 ∷ 0x0a ∷ []

-- ecdsa-with-SHA256, 1.2.840.10045.4.3.2 (RFC 5758, 3.2)
abbrev pub ecdsa_with_sha256 : List ℕ
ecdsa_with_sha256 = 0x2a ∷ 0x86 ∷ 0x48 ∷ 0xce ∷ 0x3d ∷ 0x04 ∷ 0x03 ∷ 0x02 ∷ []

-- id-dsa-with-sha1, 1.2.840.10040.4.3 (RFC 3279, 2.2.2)
abbrev pub dsa_with_sha1 : List ℕ
dsa_with_sha1 = 0x2a ∷ 0x86 ∷ 0x48 ∷ 0xce ∷ 0x38 ∷ 0x04 ∷ 0x03 ∷ []

-- id-Ed25519, 1.3.101.112 (RFC 8410, 3)
abbrev pub ed25519 : List ℕ
ed25519 = 0x2b ∷ 0x65 ∷ 0x70 ∷ []

-- id-Ed448, 1.3.101.113, isn't known
abbrev pub ed448 : List ℕ
ed448 = 0x2b ∷ 0x65 ∷ 0x71 ∷ []
