use Rattle.std.proofs.Common.{◌≡◌, drop}
use Rattle.der_tree.specs.View.{views}
use Rattle.cert_faults.specs.Steps.{each_in}
use Rattle.cert_faults.specs.Walks.{extension_fault}
use Rattle.cert_faults.proofs.extensions.each_extension_fault.Given as goal

-- What the parts left have as their first fault, all have.
abbrev pub invariant-loop-object : goal.invariant-loop-object
invariant-loop-object l = each_in (extension_fault l.field) l.left (views (drop l.object-index l.at.parts.now)) ≡ each_in (extension_fault l.field) l.at.left (views l.at.parts.now)
