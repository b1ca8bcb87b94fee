-- The fields of strict certificates and lists as the lenient readers give them: equal fields, and
-- windows, each of which is the whole element.
use Rattle.std.specs.Prelude.{◌+◌, ◌*◌, nat_lt, not, unsigned_abs, ℤ, pos, ◌+ℤ◌, ◌*ℤ◌, List, map, option_map}
use Rattle.jiff_core.specs.Calendar.{days_from_civil}
use Rattle.cert_model.specs.Fields.{Algorithm, Attribute, RelativeName, Name, Bits, Key, Extension, CivilTime, Certificate, Entry, RevocationList}
use Rattle.cert_model.specs.Octets.{name_octets, key_octets, tbs_certificate_octets, certificate_octets, tbs_cert_list_octets, list_octets}
use Rattle.x509_names.specs.Fields.{Algorithm as ReadAlgorithm, Attribute as ReadAttribute, Name as ReadName, Bits as ReadBits, Key as ReadKey}
use Rattle.x509_time.specs.Times.{Time, Period}
use Rattle.x509_certs.specs.Shared.{unparsed, Extension as ReadExtension}
use Rattle.x509_certs.specs.Fields.{Tbs, Certificate as ReadCertificate}
use Rattle.x509_lists.specs.Fields.{Entry as ReadEntry, TbsList, RevocationList as ReadList}

abbrev pub lenient_algorithm : Algorithm → ReadAlgorithm
lenient_algorithm a = record { identifier = a.identifier; parameters = a.parameters }

abbrev pub lenient_attribute : Attribute → ReadAttribute
lenient_attribute a = record { identifier = a.identifier; value = a.value }

abbrev pub lenient_set : RelativeName → List ReadAttribute
lenient_set = map lenient_attribute

abbrev pub lenient_name : Name → ReadName
lenient_name n = record { sets = map lenient_set n; raw = name_octets n }

abbrev pub lenient_bits : Bits → ReadBits
lenient_bits b = record { unused = b.unused; octets = b.octets }

abbrev pub lenient_key : Key → ReadKey
lenient_key k = record { algorithm = lenient_algorithm k.algorithm; key = lenient_bits k.key; raw = key_octets k }

-- nanoseconds since 1970 began
abbrev pub nanoseconds_of : CivilTime → ℤ
nanoseconds_of t =
    days_from_civil t.year t.month t.day *ℤ pos 86_400_000_000_000 +ℤ pos ((t.hour * 3600 + t.minute * 60 + t.second) * 1_000_000_000 + t.nanosecond)

-- a GeneralizedTime from the year 2050 on
abbrev pub lenient_time : CivilTime → Time
lenient_time t = record { nanoseconds = nanoseconds_of t; generalized = not (nat_lt (unsigned_abs t.year) 2050) }

abbrev pub lenient_period : CivilTime → CivilTime → Period
lenient_period not_before not_after = record { not_before = lenient_time not_before; not_after = lenient_time not_after }

-- its value isn't looked into
abbrev pub lenient_extension : Extension → ReadExtension
lenient_extension e = record { identifier = e.identifier; critical = e.critical; value = e.value; parsed = unparsed }

abbrev pub lenient_tbs : Certificate → Tbs
lenient_tbs c = record {
  version = c.version;
  serial = c.serial;
  signature = lenient_algorithm c.signature;
  issuer = lenient_name c.issuer;
  validity = lenient_period c.not_before c.not_after;
  subject = lenient_name c.subject;
  key = lenient_key c.key;
  issuer_id = option_map lenient_bits c.issuer_id;
  subject_id = option_map lenient_bits c.subject_id;
  extensions = map lenient_extension c.extensions;
  raw = tbs_certificate_octets c;
}

abbrev pub lenient_certificate : Certificate → ReadCertificate
lenient_certificate c = record {
  tbs = lenient_tbs c;
  algorithm = lenient_algorithm c.algorithm;
  signature_value = lenient_bits c.signature_value;
  raw = certificate_octets c;
}

abbrev pub lenient_entry : Entry → ReadEntry
lenient_entry e = record { serial = e.serial; date = lenient_time e.date; extensions = map lenient_extension e.extensions }

abbrev pub lenient_tbs_list : RevocationList → TbsList
lenient_tbs_list l = record {
  version = l.version;
  signature = lenient_algorithm l.signature;
  issuer = lenient_name l.issuer;
  this_update = lenient_time l.this_update;
  next_update = option_map lenient_time l.next_update;
  entries = map lenient_entry l.entries;
  extensions = map lenient_extension l.extensions;
  raw = tbs_cert_list_octets l;
}

abbrev pub lenient_list : RevocationList → ReadList
lenient_list l = record {
  tbs = lenient_tbs_list l;
  algorithm = lenient_algorithm l.algorithm;
  signature_value = lenient_bits l.signature_value;
  raw = list_octets l;
}
