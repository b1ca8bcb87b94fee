-- Octets and algorithms written out by hand are what the relations say.
use Rattle.std.proofs.Common.{◌≡◌, refl, ap, ℕ, ◌<◌, List, [], ◌∷◌, ◌++◌, true, false, inl, lit<, None, Some}
use Rattle.std.specs.Prelude.{bytes_eq}
use Rattle.x509_core.specs.Grammar.{One}
use Rattle.x509_core.proofs.Items.{one}
use Rattle.x509_items.specs.Grammar.{HoldsSequence}
use Rattle.x509_names.specs.Leaves.{IsInteger}
use Rattle.x509_algorithms.specs.Examples.{signature_octets, signature, nothing_octets, nothing_element, no_pss, no_oaep, bare, sha256_with_rsa, rsaes_oaep, rsassa_pss, ecdsa_with_sha256, dsa_with_sha1, ed25519, ed448}
use Rattle.x509_algorithms.specs.Identifiers.{pkcs_1, ansi_x962_signatures, x9_57}
use Rattle.x509_algorithms.specs.Parameters.{PssParts, OaepParts, PssOf, OaepOf, IsParameters, RsaSsaPssParams, RsaAesOaepParams}
use Rattle.x509_algorithms.specs.Signatures.{EcdsaParts, EcdsaSigValue, IsPlain, is_rsa, is_ecdsa, is_dsa, is_ed25519, IsSignature, of_pss, of_plain}
use Rattle.x509_algorithms.specs.Values as values
use Rattle.x509_algorithms.proofs.SignatureLaws.{plain_no_pss}

one_is : (rest : List ℕ) → One IsInteger (0x02 ∷ 0x01 ∷ 0x01 ∷ rest) (0x01 ∷ []) rest
one_is rest = one IsInteger 0 false 2 (0x01 ∷ []) (0x01 ∷ []) rest (lit< tt) (lit< tt) (lit< tt) (record { leaf = record { tag_is = refl; primitive = refl }; meant = record { same = refl; shortest = tt } })

two_is : (rest : List ℕ) → One IsInteger (0x02 ∷ 0x01 ∷ 0x02 ∷ rest) (0x02 ∷ []) rest
two_is rest = one IsInteger 0 false 2 (0x02 ∷ []) (0x02 ∷ []) rest (lit< tt) (lit< tt) (lit< tt) (record { leaf = record { tag_is = refl; primitive = refl }; meant = record { same = refl; shortest = tt } })

pub signature_is : (rest : List ℕ) → EcdsaSigValue (signature_octets ++ rest) signature rest
signature_is rest = one (HoldsSequence EcdsaParts) 0 true 16 (0x02 ∷ 0x01 ∷ 0x01 ∷ 0x02 ∷ 0x01 ∷ 0x02 ∷ []) signature rest (lit< tt) (lit< tt) (lit< tt) (record {
  container = record { class_is = refl; constructed = refl; tag_is = refl };
  left = [];
  inner = record { after_r = 0x02 ∷ 0x01 ∷ 0x02 ∷ []; r = one_is (0x02 ∷ 0x01 ∷ 0x02 ∷ []); s = two_is [] };
})

pss_of_nothing : PssOf nothing_element no_pss
pss_of_nothing = record {
  tag = refl;
  left = [];
  inner = record {
    after_hash = [];
    hash_alg = (inl refl, refl);
    after_mask = [];
    mask_gen_algorithm = (inl refl, refl);
    after_salt = [];
    salt_length = (inl refl, refl);
    trailer_field = (inl refl, refl);
  };
}

oaep_of_nothing : OaepOf nothing_element no_oaep
oaep_of_nothing = record {
  tag = refl;
  left = [];
  inner = record { after_hash = []; hash_alg = (inl refl, refl); after_mask = []; mask_gen_alg = (inl refl, refl); p_source_alg = (inl refl, refl) };
}

pub no_pss_is : (rest : List ℕ) → RsaSsaPssParams (nothing_octets ++ rest) no_pss rest
no_pss_is rest = one (IsParameters PssParts) 0 true 16 [] no_pss rest (lit< tt) (lit< tt) (lit< tt) (record { constructed = refl; means = pss_of_nothing })

pub no_oaep_is : (rest : List ℕ) → RsaAesOaepParams (nothing_octets ++ rest) no_oaep rest
no_oaep_is rest = one (IsParameters OaepParts) 0 true 16 [] no_oaep rest (lit< tt) (lit< tt) (lit< tt) (record { constructed = refl; means = oaep_of_nothing })

-- ---- algorithms

pub rsa_is : IsSignature (bare sha256_with_rsa) values.rsa
rsa_is = of_plain (is_rsa (λ same. cc) (record { rest = 0x0b ∷ []; whole_is = refl }) refl)

pub oaep_is : IsSignature (bare rsaes_oaep) values.rsa
oaep_is = of_plain (is_rsa (λ same. cc) (record { rest = 0x07 ∷ []; whole_is = refl }) refl)

pub ecdsa_is : IsSignature (bare ecdsa_with_sha256) values.ecdsa
ecdsa_is = of_plain (is_ecdsa (record { rest = 0x03 ∷ 0x02 ∷ []; whole_is = refl }) refl)

pub dsa_is : IsSignature (bare dsa_with_sha1) values.dsa
dsa_is = of_plain (is_dsa (record { rest = 0x03 ∷ []; whole_is = refl }) refl)

pub ed25519_is : IsSignature (bare ed25519) values.ed25519
ed25519_is = of_plain (is_ed25519 refl refl)

pub pss_is : IsSignature (record { identifier = rsassa_pss; parameters = Some nothing_element }) (values.rsassa_pss no_pss)
pss_is = of_pss no_pss (record { identifier = refl; element = nothing_element; parameters = refl; means = pss_of_nothing }) refl

pub bare_pss_not : (v : values.SignatureAlgorithm) → IsSignature (bare rsassa_pss) v → ⊥
bare_pss_not v (of_pss p there same) = let wrong = there.parameters in cc
bare_pss_not v (of_plain plain) = plain_no_pss rsassa_pss v refl plain

ed448_not_plain : (v : values.SignatureAlgorithm) → IsPlain ed448 v → ⊥
ed448_not_plain v (is_rsa other front same) = let wrong = front.whole_is in cc
ed448_not_plain v (is_ecdsa front same) = let wrong = front.whole_is in cc
ed448_not_plain v (is_dsa front same) = let wrong = front.whole_is in cc
ed448_not_plain v (is_ed25519 same _) = let wrong : false ≡ true = ap (λ (z : List ℕ). bytes_eq z ed25519) same in cc

pub ed448_not : (v : values.SignatureAlgorithm) → IsSignature (bare ed448) v → ⊥
ed448_not v (of_pss p there same) = let wrong = there.identifier in cc
ed448_not v (of_plain plain) = ed448_not_plain v plain
