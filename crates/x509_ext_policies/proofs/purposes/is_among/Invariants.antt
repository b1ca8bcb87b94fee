use Rattle.std.proofs.Common.{◌≡◌, drop}
use Rattle.x509_ext_policies.specs.Reading.{has}
use Rattle.x509_ext_policies.proofs.purposes.is_among.Given as goal

-- what was passed isn't it
abbrev pub invariant-loop-id : goal.invariant-loop-id
invariant-loop-id l = has l.fn.octets (drop l.id-index l.fn.ids) ≡ has l.fn.octets l.fn.ids
