use Rattle.std.proofs.Common.{◌≡◌, drop}
use Rattle.der_tree.specs.View.{views}
use Rattle.cert_faults.specs.Steps.{each_in}
use Rattle.cert_faults.specs.Walks.{entry_fault}
use Rattle.cert_faults.proofs.lists.each_entry_fault.Given as goal

-- What the parts left have as their first fault, all have.
abbrev pub invariant-loop-object : goal.invariant-loop-object
invariant-loop-object l = each_in (entry_fault l.version) l.left (views (drop l.object-index l.at.parts.now)) ≡ each_in (entry_fault l.version) l.at.left (views l.at.parts.now)
