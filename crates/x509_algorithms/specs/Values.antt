-- What the values of this crate's types stand for. Object identifiers and numbers are given as
-- their content octets.
use Rattle.std.specs.Prelude.{ℕ, List, Option}
use Rattle.x509_names.specs.Fields.{Algorithm}

-- Ecdsa-Sig-Value (RFC 3279, 2.2.3)
pub record EcdsaSigValue : Type 0 where
  pub r : List ℕ
  pub s : List ℕ

-- RSASSA-PSS-params (RFC 8017, A.2.3), as they are encoded: no default is filled in
pub record RsaSsaPssParams : Type 0 where
  pub hash_alg : Option Algorithm
  pub mask_gen_algorithm : Option Algorithm
  pub salt_length : Option ℕ
  pub trailer_field : Option ℕ

-- RSAES-OAEP-params (RFC 8017, A.2.1), as they are encoded
pub record RsaAesOaepParams : Type 0 where
  pub hash_alg : Option Algorithm
  pub mask_gen_alg : Option Algorithm
  pub p_source_alg : Option Algorithm

-- a mask generation function, and its hash
pub record MaskGenAlgorithm : Type 0 where
  pub mgf : List ℕ
  pub hash : List ℕ

-- what an algorithm of signatures or keys is
pub data SignatureAlgorithm : Type 0 where
  rsa : SignatureAlgorithm
  rsassa_pss : RsaSsaPssParams → SignatureAlgorithm
  rsaes_oaep : RsaAesOaepParams → SignatureAlgorithm
  dsa : SignatureAlgorithm
  ecdsa : SignatureAlgorithm
  ed25519 : SignatureAlgorithm
