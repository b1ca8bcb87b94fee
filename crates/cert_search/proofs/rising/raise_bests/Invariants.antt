use Rattle.std.proofs.Common.{[], map, take}
use Rattle.cert_search.specs.Rising.{AreRaised, HaveRisen, MemberTakes}
use Rattle.cert_search.proofs.rising.raise_bests.Given as goal

abbrev pub invariant-loop-change : goal.invariant-loop-change
invariant-loop-change l = record {
  raised : AreRaised l.fn.bests l.bests (MemberTakes (map (λ p. p.items) l.places) (take l.change-index l.changes));
  risen : HaveRisen l.fn.bests l.bests [] l.groups.items;
}
