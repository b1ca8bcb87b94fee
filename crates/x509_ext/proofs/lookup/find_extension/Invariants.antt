use Rattle.std.proofs.Common.{◌≡◌, drop}
use Rattle.x509_ext.specs.Lookup.{all_of}
use Rattle.x509_ext.proofs.lookup.find_extension.Given as goal

-- what was passed has another identifier
abbrev pub invariant-loop-extension : goal.invariant-loop-extension
invariant-loop-extension l = all_of l.fn.oid (drop l.extension-index l.fn.extensions) ≡ all_of l.fn.oid l.fn.extensions
