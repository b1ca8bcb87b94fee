use Rattle.std.proofs.Common.{take}
use Rattle.certpath_why.specs.Kinds.{IsCopied}
use Rattle.certpath_why.proofs.revoked.add_copies.Given as goal

abbrev pub invariant-loop-text : goal.invariant-loop-text
invariant-loop-text l = IsCopied l.initial.texts.items (take l.text-index l.more) l.texts.items
