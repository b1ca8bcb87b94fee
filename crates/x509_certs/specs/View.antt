-- What the values of this crate's types are, as the records of `Fields`.
use Rattle.std.specs.Prelude.{◌≡◌, All, option_map, map}
use Rattle.std.specs.Int.Digits.{number_from_digits}
use Rattle.asn1_unsigned.specs.Numbers.{number_of}
use Rattle.x509_names.specs.View.{HasCountedParameters, IsCountedName, IsCountedKey, algorithm_view, name_view, key_view, bits_view}
use Rattle.x509_time.specs.View.{validity_view}
use Rattle.x509_ext.specs.View.{IsCountedExtension, extension_view, identifier_view}
use Rattle.x509_certs.specs.Fields.{Tbs, Certificate}
use Rattle.x509_certs.specs.declared.tbs.TbsCertificate.{TbsCertificate}
use Rattle.x509_certs.specs.declared.certificate.X509Certificate.{X509Certificate}

abbrev pub tbs_view : TbsCertificate → Tbs
tbs_view t = record {
  version = t.version.0;
  serial = t.raw_serial.now;
  signature = algorithm_view t.signature;
  issuer = name_view t.issuer;
  validity = validity_view t.validity;
  subject = name_view t.subject;
  key = key_view t.subject_pki;
  issuer_id = option_map identifier_view t.issuer_uid;
  subject_id = option_map identifier_view t.subject_uid;
  extensions = map extension_view t.extensions.items;
  raw = t.raw.now;
}

-- the serial number is that of its octets in base 256, the highest first, no octet being a sign
abbrev pub HasSerial : TbsCertificate → Type 0
HasSerial t = number_of t.serial ≡ number_from_digits 256 t.raw_serial.now

-- headers of elements that are handed out unparsed have the lengths of their contents: the
-- algorithm's parameters, the values in both names, the parameters of the key's algorithm, and
-- those in the parsed values of extensions
abbrev pub IsCountedTbs : TbsCertificate → Type 0
IsCountedTbs t = HasCountedParameters t.signature × IsCountedName t.issuer × IsCountedName t.subject × IsCountedKey t.subject_pki × All IsCountedExtension t.extensions.items

abbrev pub certificate_view : X509Certificate → Certificate
certificate_view c = record { tbs = tbs_view c.tbs_certificate; algorithm = algorithm_view c.signature_algorithm; signature_value = bits_view c.signature_value; raw = c.raw.now }

-- headers in the signed part do so, and that of the signature algorithm's parameters
abbrev pub IsCountedCertificate : X509Certificate → Type 0
IsCountedCertificate c = IsCountedTbs c.tbs_certificate × HasCountedParameters c.signature_algorithm
