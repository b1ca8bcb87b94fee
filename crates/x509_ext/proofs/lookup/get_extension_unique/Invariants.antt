use Rattle.std.proofs.Common.{◌≡◌, drop}
use Rattle.x509_ext.specs.Lookup.{all_of}
use Rattle.x509_ext.proofs.lookup.get_extension_unique.Given as goal

-- what was passed has another identifier
abbrev pub invariant-loop-at : goal.invariant-loop-at
invariant-loop-at l = all_of l.fn.oid (drop l.at l.fn.extensions) ≡ all_of l.fn.oid l.fn.extensions
