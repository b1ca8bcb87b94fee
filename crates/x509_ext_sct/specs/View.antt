-- What timestamps are, as the data of `Values`.
use Rattle.x509_ext_sct.specs.Values as values
use Rattle.x509_ext_sct.specs.declared.timestamps.DigitallySigned.{DigitallySigned}
use Rattle.x509_ext_sct.specs.declared.timestamps.SignedCertificateTimestamp.{SignedCertificateTimestamp}

abbrev pub signed_view : DigitallySigned → values.DigitallySigned
signed_view s = record { hash_alg_id = s.hash_alg_id; sign_alg_id = s.sign_alg_id; content = s.content.now }

abbrev pub timestamp_view : SignedCertificateTimestamp → values.SignedCertificateTimestamp
timestamp_view t = record {
  version = t.version.0;
  id = t.id.key_id.now;
  timestamp = t.timestamp;
  extensions = t.extensions.0.now;
  signature = signed_view t.signature;
}
