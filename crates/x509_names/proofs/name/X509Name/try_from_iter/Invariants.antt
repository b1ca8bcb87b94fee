use Rattle.std.proofs.Common.{◌≡◌}
use Rattle.x509_names.proofs.name.X509Name.try_from_iter.Given as goal

abbrev pub invariant-loop-set : goal.invariant-loop-set
invariant-loop-set g l = l.rdn_seq.items ≡ l.yielded
