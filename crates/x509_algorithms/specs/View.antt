-- What the values of this crate's types are, as the data of `Values`.
use Rattle.std.specs.Prelude.{IfSome, option_map}
use Rattle.x509_names.specs.View.{HasCountedParameters, algorithm_view}
use Rattle.x509_algorithms.specs.Values as values
use Rattle.x509_algorithms.specs.declared.ecdsa.EcdsaSigValue.{EcdsaSigValue}
use Rattle.x509_algorithms.specs.declared.mask.MaskGenAlgorithm.{MaskGenAlgorithm}
use Rattle.x509_algorithms.specs.declared.oaep.RsaAesOaepParams.{RsaAesOaepParams}
use Rattle.x509_algorithms.specs.declared.pss.RsaSsaPssParams.{RsaSsaPssParams}
use Rattle.x509_algorithms.specs.declared.signature.SignatureAlgorithm.{SignatureAlgorithm}
use Rattle.x509_algorithms.specs.declared.signature.SignatureAlgorithm.TheVariants as kinds

abbrev pub ecdsa_view : EcdsaSigValue → values.EcdsaSigValue
ecdsa_view v = record { r = v.r.content.now; s = v.s.content.now }

abbrev pub pss_view : RsaSsaPssParams → values.RsaSsaPssParams
pss_view p = record {
  hash_alg = option_map algorithm_view p.hash_alg;
  mask_gen_algorithm = option_map algorithm_view p.mask_gen_algorithm;
  salt_length = p.salt_length;
  trailer_field = p.trailer_field;
}

-- parameters of the algorithms in it have the lengths of their contents
abbrev pub IsCountedPss : RsaSsaPssParams → Type 0
IsCountedPss p = IfSome p.hash_alg HasCountedParameters × IfSome p.mask_gen_algorithm HasCountedParameters

abbrev pub oaep_view : RsaAesOaepParams → values.RsaAesOaepParams
oaep_view p = record {
  hash_alg = option_map algorithm_view p.hash_alg;
  mask_gen_alg = option_map algorithm_view p.mask_gen_alg;
  p_source_alg = option_map algorithm_view p.p_source_alg;
}

-- so have those in it
abbrev pub IsCountedOaep : RsaAesOaepParams → Type 0
IsCountedOaep p = IfSome p.hash_alg HasCountedParameters × IfSome p.mask_gen_alg HasCountedParameters × IfSome p.p_source_alg HasCountedParameters

abbrev pub mask_view : MaskGenAlgorithm → values.MaskGenAlgorithm
mask_view m = record { mgf = m.mgf; hash = m.hash }

abbrev pub signature_view : SignatureAlgorithm → values.SignatureAlgorithm
signature_view kinds.RSA = values.rsa
signature_view (kinds.RSASSA_PSS p) = values.rsassa_pss (pss_view p)
signature_view (kinds.RSAAES_OAEP p) = values.rsaes_oaep (oaep_view p)
signature_view kinds.DSA = values.dsa
signature_view kinds.ECDSA = values.ecdsa
signature_view kinds.ED25519 = values.ed25519

-- so have those in its parameters
abbrev pub IsCountedSignature : SignatureAlgorithm → Type 0
IsCountedSignature (kinds.RSASSA_PSS p) = IsCountedPss p
IsCountedSignature (kinds.RSAAES_OAEP p) = IsCountedOaep p
IsCountedSignature s = Unit {0}
