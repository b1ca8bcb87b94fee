use Rattle.std.proofs.Common.{◌≡◌, drop}
use Rattle.certpath_files.specs.Shapes.{begins_with_parts}
use Rattle.certpath_files.proofs.shape.begins_with_parts.Given as goal

abbrev pub invariant-loop-first : goal.invariant-loop-first
invariant-loop-first l = begins_with_parts (drop l.first-index l.firsts) l.rest ≡ begins_with_parts l.firsts l.octets
