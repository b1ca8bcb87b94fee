use Rattle.std.proofs.Common.{◌≡◌, take}
use Rattle.x509_names.proofs.relative.RelativeDistinguishedName.clone.Given as goal

abbrev pub invariant-loop-attribute : goal.invariant-loop-attribute
invariant-loop-attribute l = l.set.items ≡ take l.attribute-index l.self.set.items
