use Rattle.std.proofs.Common.{◌≡◌, [], drop}
use Rattle.x509_ext_policies.specs.Reading.{once_of}
use Rattle.x509_ext_policies.proofs.PurposeLaws.{IsKept}
use Rattle.x509_ext_policies.proofs.purposes.others_of.Given as goal

abbrev pub invariant-loop-id : goal.invariant-loop-id
invariant-loop-id l = (once_of l.others.items (drop l.id-index l.fn.ids) ≡ once_of [] l.fn.ids) × IsKept l.others.items l.seen
