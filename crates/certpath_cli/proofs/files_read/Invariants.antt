use Rattle.std.proofs.Common.{◌≡◌, map, take}
use Rattle.certpath_cli.proofs.files_read.Given as goal

abbrev pub invariant-loop-word : goal.invariant-loop-word
invariant-loop-word g l = map (λ f. f.name) l.files.items ≡ take l.word-index l.words
