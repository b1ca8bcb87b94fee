-- Signature values and the algorithms of signatures.
use Rattle.std.specs.Prelude.{◌≡◌, ◌≢◌, ℕ, List, Option, Some}
use Rattle.asn1_core.specs.Elements.{Element}
use Rattle.asn1_oid.specs.Identifier.{IsFront}
use Rattle.x509_core.specs.Grammar.{Grammar, One}
use Rattle.x509_items.specs.Grammar.{Sequence}
use Rattle.x509_names.specs.Fields.{Algorithm}
use Rattle.x509_names.specs.Leaves.{IsInteger}
use Rattle.x509_algorithms.specs.Values as values
use Rattle.x509_algorithms.specs.Identifiers.{pkcs_1, rsassa_pss_id, ansi_x962_signatures, x9_57, ed25519_id}
use Rattle.x509_algorithms.specs.Parameters.{PssOf}

-- Ecdsa-Sig-Value ::= SEQUENCE { r INTEGER, s INTEGER } (RFC 3279, 2.2.3), constructed and universal; the numbers may be negative,
-- and what is left of the content is ignored
pub record EcdsaParts (octets : List ℕ) (v : values.EcdsaSigValue) (rest : List ℕ) : Type 0 where
  pub after_r : List ℕ
  pub r : One IsInteger octets v.r after_r
  pub s : One IsInteger after_r v.s rest

abbrev pub EcdsaSigValue : Grammar values.EcdsaSigValue
EcdsaSigValue = Sequence EcdsaParts

-- RSASSA-PSS (RFC 8017, A.2.3), of parameters that can be read
pub record IsPss (a : Algorithm) (p : values.RsaSsaPssParams) : Type 0 where
  pub identifier : a.identifier ≡ rsassa_pss_id
  pub element : Element
  pub parameters : a.parameters ≡ Some element
  pub means : PssOf element p

-- What an identifier is by itself: of RSA whatever is under PKCS #1 but RSASSA-PSS (RFC 8017,
-- appendix C), so RSAES-OAEP too; ECDSA and DSA whatever is under their arcs (RFC 3279, 2.2.2 and
-- 2.2.3); Ed25519 one alone (RFC 8410, 3).
pub data IsPlain (identifier : List ℕ) (v : values.SignatureAlgorithm) : Type 0 where
  is_rsa : identifier ≢ rsassa_pss_id → IsFront pkcs_1 identifier → v ≡ values.rsa → IsPlain identifier v
  is_ecdsa : IsFront ansi_x962_signatures identifier → v ≡ values.ecdsa → IsPlain identifier v
  is_dsa : IsFront x9_57 identifier → v ≡ values.dsa → IsPlain identifier v
  is_ed25519 : identifier ≡ ed25519_id → v ≡ values.ed25519 → IsPlain identifier v

-- What an algorithm of signatures is. Parameters are looked at for RSASSA-PSS alone.
pub data IsSignature (a : Algorithm) (v : values.SignatureAlgorithm) : Type 0 where
  of_pss : (p : values.RsaSsaPssParams) → IsPss a p → v ≡ values.rsassa_pss p → IsSignature a v
  of_plain : IsPlain a.identifier v → IsSignature a v
