use Rattle.std.proofs.Common.{take}
use Rattle.certpath_why.proofs.Holding.{NoneOfFirst}
use Rattle.certpath_why.proofs.holders.Holders.has_position.Given as goal

abbrev pub invariant-loop-holder : goal.invariant-loop-holder
invariant-loop-holder l = NoneOfFirst l.self (take l.holder-index l.row) l.name
