use Rattle.std.proofs.Common.{◌≡◌, ◌++◌, take, string_bytes}
use Rattle.std.specs.List.{flat_map}
use Rattle.certpath_why.specs.Listed.{listed_octet}
use Rattle.certpath_why.proofs.listed.push_listed_octets.Given as goal

abbrev pub invariant-loop-octet : goal.invariant-loop-octet
invariant-loop-octet l = string_bytes l.text ≡ string_bytes l.initial.text ++ flat_map listed_octet (take l.octet-index l.octets)
