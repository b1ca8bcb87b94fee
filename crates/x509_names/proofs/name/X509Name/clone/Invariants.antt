use Rattle.std.proofs.Common.{◌≡◌, take, map}
use Rattle.x509_names.specs.View.{attributes_of_set}
use Rattle.x509_names.proofs.name.X509Name.clone.Given as goal

abbrev pub invariant-loop-set : goal.invariant-loop-set
invariant-loop-set l = map attributes_of_set l.rdn_seq.items ≡ map attributes_of_set (take l.set-index l.self.rdn_seq.items)
