use Rattle.std.proofs.Common.{◌≡◌}
use Rattle.x509_names.proofs.relative.RelativeDistinguishedName.try_from_iter.Given as goal

abbrev pub invariant-loop-attribute : goal.invariant-loop-attribute
invariant-loop-attribute g l = l.set.items ≡ l.yielded
