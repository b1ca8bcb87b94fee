use Rattle.std.proofs.Common.{◌≡◌, drop}
use Rattle.der_tree.specs.View.{views}
use Rattle.cert_faults.specs.Items.{has_time}
use Rattle.cert_faults.proofs.lists.has_time.Given as goal

-- A time is among the parts left if one is among all.
abbrev pub invariant-loop-object : goal.invariant-loop-object
invariant-loop-object l = has_time (views (drop l.object-index l.parts)) ≡ has_time (views l.parts)
