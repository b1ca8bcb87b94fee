use Rattle.std.proofs.Common.{◌≡◌, drop}
use Rattle.host_names.specs.HostNames.{last_part}
use Rattle.host_names.proofs.LastFacts.{settled}
use Rattle.host_names.proofs.octets.last_part.Given as goal

abbrev pub invariant-loop-place : goal.invariant-loop-place
invariant-loop-place l = last_part l.separator l.text ≡ settled l.separator (drop l.place l.text) l.last
