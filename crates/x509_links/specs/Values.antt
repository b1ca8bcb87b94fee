-- What is read of certificates and lists, the values of their extensions parsed by another function: that alone changes.
use Rattle.std.specs.Prelude.{map}
use Rattle.cert_model.specs.Fields.{Certificate as StrictCertificate, RevocationList as StrictList}
use Rattle.x509_certs.specs.Shared.{Extension, ValueReading}
use Rattle.x509_certs.specs.Shared.{deeply}
use Rattle.x509_certs.specs.Fields.{Tbs, Certificate}
use Rattle.x509_lists.specs.Fields.{Entry, TbsList, RevocationList}
use Rattle.x509_links.specs.Lenient.{lenient_certificate, lenient_list}

abbrev pub extension_by : ValueReading → Extension → Extension
extension_by parse e = record e { parsed = parse e.identifier e.value }

abbrev pub tbs_by : ValueReading → Tbs → Tbs
tbs_by parse t = record t { extensions = map (extension_by parse) t.extensions }

abbrev pub certificate_by : ValueReading → Certificate → Certificate
certificate_by parse c = record c { tbs = tbs_by parse c.tbs }

abbrev pub entry_by : ValueReading → Entry → Entry
entry_by parse e = record e { extensions = map (extension_by parse) e.extensions }

-- its entries' extensions too
abbrev pub tbs_list_by : ValueReading → TbsList → TbsList
tbs_list_by parse t = record t { entries = map (entry_by parse) t.entries; extensions = map (extension_by parse) t.extensions }

abbrev pub list_by : ValueReading → RevocationList → RevocationList
list_by parse l = record l { tbs = tbs_list_by parse l.tbs }

-- what is read of a strict certificate or list: its fields, its windows, and the values of its extensions parsed
abbrev pub parsed_certificate : StrictCertificate → Certificate
parsed_certificate c = certificate_by deeply (lenient_certificate c)

abbrev pub parsed_list : StrictList → RevocationList
parsed_list l = list_by deeply (lenient_list l)
