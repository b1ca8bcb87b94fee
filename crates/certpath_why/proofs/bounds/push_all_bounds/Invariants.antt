use Rattle.std.proofs.Common.{◌≡◌, ◌++◌, take, string_bytes}
use Rattle.std.specs.List.{flat_map}
use Rattle.certpath_why.specs.Lines.{reach_lines}
use Rattle.certpath_why.specs.Bounds.{reach_by}
use Rattle.certpath_why.proofs.bounds.push_all_bounds.Given as goal

abbrev pub invariant-loop-place : goal.invariant-loop-place
invariant-loop-place l = string_bytes l.text ≡ string_bytes l.initial.text ++ flat_map (λ v. reach_lines v (reach_by l.answer v)) (take l.place-index l.places)
