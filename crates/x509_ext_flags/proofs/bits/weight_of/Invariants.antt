use Rattle.std.proofs.Common.{◌≡◌, ◌≤◌, ◌-◌}
use Rattle.x509_ext_flags.specs.Reading.{weight}
use Rattle.x509_ext_flags.proofs.bits.weight_of.Given as goal

abbrev pub invariant-loop-at : goal.invariant-loop-at
invariant-loop-at l = record {
  value : l.flags ≡ weight (l.width - l.at) l.at l.octets;
  within : l.at ≤ l.width;
}

abbrev pub decreases-loop-at : goal.decreases-loop-at
decreases-loop-at l = l.at
