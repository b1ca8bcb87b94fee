-- Octets written out by hand are what the relations say.
use Rattle.std.proofs.Common.{◌≡◌, refl, ℕ, ◌<◌, List, [], ◌∷◌, ◌++◌, true, false, length, lit<}
use Rattle.x509_core.specs.Grammar.{One, Holds, HoldsWindow, AsMany}
use Rattle.x509_core.proofs.Grammars.{none_at_end}
use Rattle.x509_core.proofs.Items.{tlv, piece, spelled, one, none_here}
use Rattle.x509_names.specs.Examples.{algorithm, algorithm_octets, key, key_octets, empty_name, empty_octets, stopped_name, stopped_octets, common_name, name, name_octets, rsa_key, rsa_octets}
use Rattle.x509_names.specs.Fields.{Attribute}
use Rattle.x509_names.specs.Leaves.{IsOid, IsInteger, IsBits, IsAny}
use Rattle.x509_names.specs.Names.{AlgorithmIdentifier, AlgorithmParts, AttributeParts, RelativeDistinguishedName, RelativeParts, X509Name, NameParts, SubjectPublicKeyInfo, KeyParts}
use Rattle.x509_names.specs.PublicKeys.{RSAPublicKey, RsaParts}

pub oid_is : (content rest : List ℕ) → length content < 128 → One IsOid (tlv 0 false 6 content ++ rest) content rest
oid_is content rest short = one IsOid 0 false 6 content content rest (lit< tt) (lit< tt) short (record { leaf = record { tag_is = refl; primitive = refl }; meant = refl })

pub algorithm_is : (rest : List ℕ) → AlgorithmIdentifier (algorithm_octets ++ rest) algorithm rest
algorithm_is rest = one (Holds 16 AlgorithmParts) 0 true 16 (0x06 ∷ 0x02 ∷ 0x2a ∷ 0x03 ∷ []) algorithm rest (lit< tt) (lit< tt) (lit< tt) (
  [],
  record { tag = refl; inner = record { after_algorithm = []; algorithm = oid_is (0x2a ∷ 0x03 ∷ []) [] (lit< tt); parameters = (refl, refl) } },
)

-- a BIT STRING of no bits
pub bits_are : (rest : List ℕ) → One IsBits (0x03 ∷ 0x01 ∷ 0x00 ∷ rest) key.key rest
bits_are rest = one IsBits 0 false 3 (0x00 ∷ []) key.key rest (lit< tt) (lit< tt) (lit< tt) (record {
  leaf = record { tag_is = refl; primitive = refl };
  meant = record { whole = refl; strict = record { bits = record { few = lit< tt; none = λ e. refl }; zero = refl } };
})

pub key_is : (rest : List ℕ) → SubjectPublicKeyInfo (key_octets ++ rest) key rest
key_is rest = one (HoldsWindow 16 KeyParts (λ k. k.raw)) 0 true 16 (algorithm_octets ++ 0x03 ∷ 0x01 ∷ 0x00 ∷ []) key rest (lit< tt) (lit< tt) (lit< tt) (record {
  left = [];
  inside = record { tag = refl; inner = record { after_algorithm = 0x03 ∷ 0x01 ∷ 0x00 ∷ []; algorithm = algorithm_is (0x03 ∷ 0x01 ∷ 0x00 ∷ []); subject_public_key = bits_are [] } };
  window = refl;
})

pub empty_name_is : (rest : List ℕ) → X509Name (empty_octets ++ rest) empty_name rest
unfolding AsMany
empty_name_is rest = one (HoldsWindow 16 NameParts (λ n. n.raw)) 0 true 16 [] empty_name rest (lit< tt) (lit< tt) (lit< tt) (record {
  left = [];
  inside = record { tag = refl; inner = (refl, none_at_end (Holds 17 RelativeParts)) };
  window = refl;
})

empty_set : (attributes : List Attribute) → Holds 17 RelativeParts (piece 0 true 17 []) attributes → ⊥
unfolding AsMany
empty_set [] holds = holds.1.inner.some refl
empty_set (x ∷ xs) holds = none_at_end (Holds 16 AttributeParts) x holds.1.inner.each.0 holds.1.inner.each.1

pub stopped_name_is : (rest : List ℕ) → X509Name (stopped_octets ++ rest) stopped_name rest
unfolding AsMany
stopped_name_is rest = one (HoldsWindow 16 NameParts (λ n. n.raw)) 0 true 16 (0x31 ∷ 0x00 ∷ []) stopped_name rest (lit< tt) (lit< tt) (lit< tt) (record {
  left = 0x31 ∷ 0x00 ∷ [];
  inside = record { tag = refl; inner = (refl, none_here (Holds 17 RelativeParts) (piece 0 true 17 []) [] (spelled 0 true 17 [] (lit< tt) (lit< tt) (lit< tt)) empty_set) };
  window = refl;
})

abbrev set_content : List ℕ
set_content = 0x30 ∷ 0x08 ∷ 0x06 ∷ 0x03 ∷ 0x55 ∷ 0x04 ∷ 0x03 ∷ 0x0c ∷ 0x01 ∷ 0x62 ∷ []

set_is : RelativeDistinguishedName (0x31 ∷ 0x0a ∷ set_content) (common_name ∷ []) []
unfolding AsMany
set_is = one (Holds 17 RelativeParts) 0 true 17 set_content (common_name ∷ []) [] (lit< tt) (lit< tt) (lit< tt) (
  [],
  record {
    tag = refl;
    inner = record {
      some = λ e. cc e;
      each = (
        [],
        one (Holds 16 AttributeParts) 0 true 16 (0x06 ∷ 0x03 ∷ 0x55 ∷ 0x04 ∷ 0x03 ∷ 0x0c ∷ 0x01 ∷ 0x62 ∷ []) common_name [] (lit< tt) (lit< tt) (lit< tt) (
          [],
          record {
            tag = refl;
            inner = record {
              after_type = 0x0c ∷ 0x01 ∷ 0x62 ∷ [];
              attr_type = oid_is (0x55 ∷ 0x04 ∷ 0x03 ∷ []) (0x0c ∷ 0x01 ∷ 0x62 ∷ []) (lit< tt);
              attr_value = one IsAny 0 false 12 (0x62 ∷ []) common_name.value [] (lit< tt) (lit< tt) (lit< tt) refl;
            };
          },
        ),
        (refl, none_at_end (Holds 16 AttributeParts)),
      );
    };
  },
)

pub name_is : (rest : List ℕ) → X509Name (name_octets ++ rest) name rest
unfolding AsMany
name_is rest = one (HoldsWindow 16 NameParts (λ n. n.raw)) 0 true 16 (0x31 ∷ 0x0a ∷ set_content) name rest (lit< tt) (lit< tt) (lit< tt) (record {
  left = [];
  inside = record { tag = refl; inner = ([], set_is, (refl, none_at_end (Holds 17 RelativeParts))) };
  window = refl;
})

three_is : (rest : List ℕ) → One IsInteger (0x02 ∷ 0x01 ∷ 0x03 ∷ rest) (0x03 ∷ []) rest
three_is rest = one IsInteger 0 false 2 (0x03 ∷ []) (0x03 ∷ []) rest (lit< tt) (lit< tt) (lit< tt) (record { leaf = record { tag_is = refl; primitive = refl }; meant = record { same = refl; shortest = tt } })

pub rsa_is : (rest : List ℕ) → RSAPublicKey (rsa_octets ++ rest) rsa_key rest
rsa_is rest = one (Holds 16 RsaParts) 0 true 16 (0x02 ∷ 0x01 ∷ 0x03 ∷ 0x02 ∷ 0x01 ∷ 0x03 ∷ []) rsa_key rest (lit< tt) (lit< tt) (lit< tt) (
  [],
  record { tag = refl; inner = record { after_modulus = 0x02 ∷ 0x01 ∷ 0x03 ∷ []; modulus = three_is (0x02 ∷ 0x01 ∷ 0x03 ∷ []); exponent = three_is [] } },
)
