use Rattle.std.proofs.Common.{take}
use Rattle.certpath_why.proofs.Classing.{HasNumbers, HasOnly}
use Rattle.certpath_why.proofs.classes.numbers_at.Given as goal

abbrev pub invariant-loop-place : goal.invariant-loop-place
invariant-loop-place l = HasNumbers l.numbers (take l.place-index l.places) l.found.items × HasOnly l.numbers (take l.place-index l.places) l.found.items
