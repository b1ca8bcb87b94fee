-- A copy of a name stands for the value that the name stands for.
use Rattle.std.proofs.Common.{◌≡◌, map}
use Rattle.x509_ext_flags.specs.x509_names.specs.View.{attributes_of_set, name_view}
use Rattle.x509_ext_flags.specs.x509_names.specs.declared.name.X509Name.{X509Name}
use Rattle.x509_ext_flags.specs.x509_names.proofs.Copied as copied

pub same_name : (a b : X509Name) → map attributes_of_set a.rdn_seq.items ≡ map attributes_of_set b.rdn_seq.items → a.raw ≡ b.raw → name_view a ≡ name_view b
same_name = copied.same_name
