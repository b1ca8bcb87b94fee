use Rattle.std.proofs.Common.{length}
use Rattle.der_parser.specs.Items.{Takes}
use Rattle.der_parser.proofs.items.items_of.Given as goal

abbrev pub invariant-loop-rest : goal.invariant-loop-rest
invariant-loop-rest g l = record {
  callable : goal.F-IsAlwaysCallable g l.f;
  read : Takes (λ i r. goal.F-post g l.f i r) l.content l.items.items l.rest;
}

abbrev pub decreases-loop-rest : goal.decreases-loop-rest
decreases-loop-rest g l = length l.rest
