use Rattle.std.proofs.Common.{◌≡◌, None, drop, option_map}
use Rattle.der_tree.specs.View.{views}
use Rattle.cert_faults.specs.Walks.{attributes_in}
use Rattle.cert_faults.proofs.names.attributes_fault.Given as goal

-- What the attributes left have as their first fault, all have.
abbrev pub invariant-loop-object : goal.invariant-loop-object
invariant-loop-object l = attributes_in l.field (option_map (λ s. s.now) l.before) l.left (views (drop l.object-index l.at.parts.now)) ≡ attributes_in l.field None l.at.left (views l.at.parts.now)
