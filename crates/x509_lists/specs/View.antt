-- What the values of this crate's types are, as the records of `Fields`.
use Rattle.std.specs.Prelude.{◌≡◌, List, Option, All, option_map, map}
use Rattle.std.specs.Int.Digits.{number_from_digits}
use Rattle.asn1_core.specs.declared.error.Error.{Error}
use Rattle.asn1_core.specs.declared.outcome.Err.{Err as Refusal}
use Rattle.asn1_unsigned.specs.Numbers.{number_of}
use Rattle.x509_names.specs.View.{HasCountedParameters, IsCountedName, algorithm_view, name_view, bits_view}
use Rattle.x509_time.specs.View.{time_view}
use Rattle.x509_ext.specs.View.{extension_view, extension_error, IsCountedExtension, WantsNoMemory}
use Rattle.x509_lists.specs.Fields.{Entry, TbsList, RevocationList}
use Rattle.x509_lists.specs.declared.entry.RevokedCertificate.{RevokedCertificate}
use Rattle.x509_lists.specs.declared.tbs.TbsCertList.{TbsCertList}
use Rattle.x509_lists.specs.declared.list.CertificateRevocationList.{CertificateRevocationList}

abbrev pub entry_view : RevokedCertificate → Entry
entry_view e = record { serial = e.raw_serial.now; date = time_view e.revocation_date; extensions = map extension_view e.extensions.items }

-- why values of its extensions are none of their types, extension by extension
abbrev pub entry_errors : RevokedCertificate → List (Option (Refusal Error))
entry_errors e = map extension_error e.extensions.items

-- the serial number is that of its octets in base 256, the highest first, no octet being a sign
abbrev pub HasSerial : RevokedCertificate → Type 0
HasSerial e = number_of e.user_certificate ≡ number_from_digits 256 e.raw_serial.now

-- if a value of its extensions is none of its type, the error isn't `OutOfMemory`
abbrev pub EntryWantsNoMemory : RevokedCertificate → Type 0
EntryWantsNoMemory e = All WantsNoMemory e.extensions.items

-- elements in the parsed values of its extensions have the lengths of their contents
abbrev pub IsCountedEntry : RevokedCertificate → Type 0
IsCountedEntry e = All IsCountedExtension e.extensions.items

abbrev pub tbs_view : TbsCertList → TbsList
tbs_view t = record {
  version = option_map (λ v. v.0) t.version;
  signature = algorithm_view t.signature;
  issuer = name_view t.issuer;
  this_update = time_view t.this_update;
  next_update = option_map time_view t.next_update;
  entries = map entry_view t.revoked_certificates.items;
  extensions = map extension_view t.extensions.items;
  raw = t.raw.now;
}

-- each entry's is
abbrev pub HaveSerials : TbsCertList → Type 0
HaveSerials t = All HasSerial t.revoked_certificates.items

-- nor of any of its entries
abbrev pub EntriesWantNoMemory : TbsCertList → Type 0
EntriesWantNoMemory t = All EntryWantsNoMemory t.revoked_certificates.items

-- headers of elements that are handed out unparsed have the lengths of their contents: the
-- algorithm's parameters, the values in the issuer's name, and those in the parsed values of
-- extensions, of entries too
abbrev pub IsCountedTbs : TbsCertList → Type 0
IsCountedTbs t = HasCountedParameters t.signature × IsCountedName t.issuer × All IsCountedEntry t.revoked_certificates.items × All IsCountedExtension t.extensions.items

abbrev pub list_view : CertificateRevocationList → RevocationList
list_view l = record { tbs = tbs_view l.tbs_cert_list; algorithm = algorithm_view l.signature_algorithm; signature_value = bits_view l.signature_value; raw = l.raw.now }

-- headers in the signed part do so, and that of the signature algorithm's parameters
abbrev pub IsCountedList : CertificateRevocationList → Type 0
IsCountedList l = IsCountedTbs l.tbs_cert_list × HasCountedParameters l.signature_algorithm
