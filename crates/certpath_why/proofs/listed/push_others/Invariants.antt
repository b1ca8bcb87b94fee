use Rattle.std.proofs.Common.{◌≡◌, ◌++◌, take, codes, string_bytes}
use Rattle.std.specs.List.{flat_map}
use Rattle.certpath_why.specs.Listed.{shown_part}
use Rattle.certpath_why.proofs.listed.push_others.Given as goal

abbrev pub invariant-loop-part : goal.invariant-loop-part
invariant-loop-part g l = string_bytes l.text ≡ string_bytes l.initial.text ++ flat_map (λ y. codes ", " ++ shown_part (g.P.Part.text_of y)) (take l.part-index l.parts)
