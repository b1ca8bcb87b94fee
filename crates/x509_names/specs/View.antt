-- What the values of this crate's types are, as the records of `Fields`.
use Rattle.std.specs.Prelude.{ℕ, Bool, List, option_map, map, bytes_eq, All, IfSome}
use Rattle.std.specs.List.{flat_map}
use Rattle.asn1_any.specs.CutViews.{HasOwnLength}
use Rattle.asn1_any.specs.Views.{any_of}
use Rattle.asn1_values.specs.declared.bitstring.BitString.{BitString}
use Rattle.x509_names.specs.Fields.{Algorithm, Attribute, Name, Bits, Key, RsaKey, KeyValue, rsa, ec, dsa, gost, gost_2012, unknown}
use Rattle.x509_names.specs.declared.algorithm.AlgorithmIdentifier.{AlgorithmIdentifier}
use Rattle.x509_names.specs.declared.attribute.AttributeTypeAndValue.{AttributeTypeAndValue}
use Rattle.x509_names.specs.declared.relative.RelativeDistinguishedName.{RelativeDistinguishedName}
use Rattle.x509_names.specs.declared.name.X509Name.{X509Name}
use Rattle.x509_names.specs.declared.key.SubjectPublicKeyInfo.{SubjectPublicKeyInfo}
use Rattle.x509_names.specs.declared.public_key.RSAPublicKey.{RSAPublicKey}
use Rattle.x509_names.specs.declared.public_key.PublicKey.{PublicKey}
use Rattle.x509_names.specs.declared.public_key.PublicKey.TheVariants as keys

abbrev pub algorithm_view : AlgorithmIdentifier → Algorithm
algorithm_view a = record { identifier = a.algorithm; parameters = option_map any_of a.parameters }

-- the header of the parameters has the length of their content
abbrev pub HasCountedParameters : AlgorithmIdentifier → Type 0
HasCountedParameters a = IfSome a.parameters HasOwnLength

-- the header of the value has the length of its content
abbrev pub HasCountedValue : AttributeTypeAndValue → Type 0
HasCountedValue a = HasOwnLength a.attr_value

-- each attribute of the set does
abbrev pub HasCountedValues : RelativeDistinguishedName → Type 0
HasCountedValues s = All HasCountedValue s.set.items

-- each attribute of each set does
abbrev pub IsCountedName : X509Name → Type 0
IsCountedName n = All HasCountedValues n.rdn_seq.items

-- the algorithm's parameters do
abbrev pub IsCountedKey : SubjectPublicKeyInfo → Type 0
IsCountedKey k = HasCountedParameters k.algorithm

abbrev pub attribute_view : AttributeTypeAndValue → Attribute
attribute_view a = record { identifier = a.attr_type; value = any_of a.attr_value }

abbrev pub set_view : RelativeDistinguishedName → List Attribute
set_view s = map attribute_view s.set.items

abbrev pub name_view : X509Name → Name
name_view n = record { sets = map set_view n.rdn_seq.items; raw = n.raw.now }

abbrev pub bits_view : BitString → Bits
bits_view b = record { unused = b.unused_bits; octets = b.content.now }

abbrev pub key_view : SubjectPublicKeyInfo → Key
key_view k = record { algorithm = algorithm_view k.algorithm; key = bits_view k.subject_public_key; raw = k.raw.now }

abbrev pub rsa_view : RSAPublicKey → RsaKey
rsa_view k = record { modulus = k.modulus.now; exponent = k.exponent.now }

abbrev pub public_key_view : PublicKey → KeyValue
public_key_view (keys.RSA k) = rsa (rsa_view k)
public_key_view (keys.EC point) = ec point.content.now
public_key_view (keys.DSA y) = dsa y.now
public_key_view (keys.GostR3410 y) = gost y.now
public_key_view (keys.GostR3410_2012 y) = gost_2012 y.now
public_key_view (keys.Unknown octets) = unknown octets.now

abbrev pub attributes_of_set : RelativeDistinguishedName → List AttributeTypeAndValue
attributes_of_set s = s.set.items

-- the attributes of sets, one after the other
abbrev pub attributes_in : List RelativeDistinguishedName → List AttributeTypeAndValue
attributes_in sets = flat_map attributes_of_set sets

-- whether an attribute's type is of these octets
abbrev pub has_type : List ℕ → AttributeTypeAndValue → Bool
has_type identifier a = bytes_eq a.attr_type identifier
