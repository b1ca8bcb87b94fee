-- What the types of `fields` are values of.
use Rattle.std.specs.Prelude.{map, option_map}
use Rattle.asn1_core.specs.Elements.{Element}
use Rattle.asn1_core.specs.Views.{class_number}
use Rattle.jiff_core.specs.declared.civil.datetime.DateTime.{DateTime}
use Rattle.cert_model.specs.declared.fields.AnyField.{AnyField}
use Rattle.cert_model.specs.declared.fields.AlgField.{AlgField}
use Rattle.cert_model.specs.declared.fields.AttrField.{AttrField}
use Rattle.cert_model.specs.declared.fields.NameFields.{NameFields}
use Rattle.cert_model.specs.declared.fields.BitField.{BitField}
use Rattle.cert_model.specs.declared.fields.KeyField.{KeyField}
use Rattle.cert_model.specs.declared.fields.ExtField.{ExtField}
use Rattle.cert_model.specs.declared.fields.CertFields.{CertFields}
use Rattle.cert_model.specs.declared.fields.EntryFields.{EntryFields}
use Rattle.cert_model.specs.declared.fields.ListFields.{ListFields}
use Rattle.cert_model.specs.Fields.{Algorithm, Attribute, Name, Bits, Key, Extension, CivilTime, Certificate, Entry, RevocationList}

abbrev pub any_view : AnyField → Element
any_view f = record { class = class_number f.class; constructed = f.constructed; tag = f.tag.0; content = f.content.now }

abbrev pub alg_view : AlgField → Algorithm
alg_view f = record { identifier = f.identifier.now; parameters = option_map any_view f.parameters }

abbrev pub attr_view : AttrField → Attribute
attr_view f = record { identifier = f.identifier.now; value = any_view f.value }

abbrev pub name_view : NameFields → Name
name_view f = map (λ set. map attr_view set.items) f.sets.items

abbrev pub bit_view : BitField → Bits
bit_view f = record { unused = f.unused; octets = f.octets.now }

abbrev pub key_view : KeyField → Key
key_view f = record { algorithm = alg_view f.algorithm; key = bit_view f.key }

abbrev pub ext_view : ExtField → Extension
ext_view f = record { identifier = f.identifier.now; critical = f.critical; value = f.value.now }

abbrev pub time_view : DateTime → CivilTime
time_view t = record {
  year = t.date.year;
  month = t.date.month;
  day = t.date.day;
  hour = t.time.hour;
  minute = t.time.minute;
  second = t.time.second;
  nanosecond = t.time.subsec_nanosecond;
}

abbrev pub certificate_view : CertFields → Certificate
certificate_view f = record {
  version = f.version;
  serial = f.serial.now;
  signature = alg_view f.signature;
  issuer = name_view f.issuer;
  not_before = time_view f.not_before;
  not_after = time_view f.not_after;
  subject = name_view f.subject;
  key = key_view f.key;
  issuer_id = option_map bit_view f.issuer_id;
  subject_id = option_map bit_view f.subject_id;
  extensions = map ext_view f.extensions.items;
  algorithm = alg_view f.algorithm;
  signature_value = bit_view f.signature_value;
}

abbrev pub entry_view : EntryFields → Entry
entry_view f = record { serial = f.serial.now; date = time_view f.date; extensions = map ext_view f.extensions.items }

abbrev pub list_view : ListFields → RevocationList
list_view f = record {
  version = f.version;
  signature = alg_view f.signature;
  issuer = name_view f.issuer;
  this_update = time_view f.this_update;
  next_update = option_map time_view f.next_update;
  entries = map entry_view f.entries.items;
  extensions = map ext_view f.extensions.items;
  algorithm = alg_view f.algorithm;
  signature_value = bit_view f.signature_value;
}
