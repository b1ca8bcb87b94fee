-- What the types of `pieces` are values of.
use Rattle.std.specs.Prelude.{map, option_map}
use Rattle.cert_model.specs.View.{any_view, alg_view, name_view, bit_view, key_view, time_view, entry_view}
use Rattle.cert_model.specs.Pieces.{TbsPieces, Signed, TbsListPieces}
use Rattle.certcheck.specs.declared.certificate.CertPieces.{CertPieces}
use Rattle.certcheck.specs.declared.certificate.SignedCertificate.{SignedCertificate}
use Rattle.certcheck.specs.declared.list.ListPieces.{ListPieces}
use Rattle.certcheck.specs.declared.list.SignedList.{SignedList}

abbrev pub cert_pieces_view : CertPieces → TbsPieces
cert_pieces_view p = record {
  version = option_map any_view p.version;
  serial = p.serial.now;
  signature = alg_view p.signature;
  issuer = name_view p.issuer;
  validity = (time_view p.not_before, time_view p.not_after);
  subject = name_view p.subject;
  key = key_view p.key;
  issuer_id = option_map any_view p.issuer_id;
  subject_id = option_map any_view p.subject_id;
  extensions = option_map any_view p.extensions;
}

abbrev pub list_pieces_view : ListPieces → TbsListPieces
list_pieces_view p = record {
  version = p.version;
  signature = alg_view p.signature;
  issuer = name_view p.issuer;
  this_update = time_view p.this_update;
  next_update = option_map time_view p.next_update;
  entries = map entry_view p.entries.items;
  extensions = option_map any_view p.extensions;
}

abbrev pub signed_certificate_view : SignedCertificate → Signed TbsPieces
signed_certificate_view s = record { signed = cert_pieces_view s.tbs; algorithm = alg_view s.algorithm; signature_value = bit_view s.signature_value }

abbrev pub signed_list_view : SignedList → Signed TbsListPieces
signed_list_view s = record { signed = list_pieces_view s.tbs; algorithm = alg_view s.algorithm; signature_value = bit_view s.signature_value }
