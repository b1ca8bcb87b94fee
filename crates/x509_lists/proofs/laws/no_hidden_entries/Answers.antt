use Rattle.x509_ext.specs.Fields.{meaning_of}
use Rattle.x509_lists.proofs.ListLaws.{nothing_hidden}
use Rattle.x509_lists.proofs.laws.no_hidden_entries.Goals as goal

pub returns : goal.returns
returns c = λ deep octets t rest is none. nothing_hidden (meaning_of deep) is.after_next_update is.after_entries is.written t.extensions rest is.revoked_certificates none is.crl_extensions
