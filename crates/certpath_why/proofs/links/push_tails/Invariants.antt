use Rattle.std.proofs.Common.{◌≡◌, ◌++◌, take, string_bytes}
use Rattle.certpath_why.specs.Kinds.{lines_of}
use Rattle.certpath_why.specs.LinkText.{front_text}
use Rattle.certpath_why.proofs.links.push_tails.Given as goal

abbrev pub invariant-loop-tail : goal.invariant-loop-tail
invariant-loop-tail l = string_bytes l.text ≡ string_bytes l.initial.text ++ lines_of (front_text l.front) (take l.tail-index l.tails)
