use Rattle.std.proofs.Common.{subst, refl, Option}
use Rattle.certpath_why.specs.Cuts.{opened}
use Rattle.certpath_why.specs.Ranges.{IsInRanges}
use Rattle.certpath_why.specs.declared.ranges.Range.{Range}
use Rattle.certpath_why.proofs.Spacing.{in_none, one_in, not_taken, not_true, taken}
use Rattle.certpath_why.proofs.cuts.Walk.split.Goals as goal

pub returns-in_default : goal.returns-in_default
returns-in_default c = λ done cut spaced ready. not_taken c.args.place done c.args.self.now cut spaced ready (λ i. in_none c.args.place (subst (λ (o : Option Range). IsInRanges (opened o) c.args.place) c.in_default.is i))

pub returns-then-not-holds : goal.returns-then-not-holds
returns-then-not-holds c = λ done cut spaced ready. not_taken c.args.place done c.args.self.now cut spaced ready
    (λ i. not_true _ (c.holds.ensures.1 ((one_in c.in-Some.range c.args.place).0 (subst (λ (o : Option Range). IsInRanges (opened o) c.args.place) c.in-Some.is i))) c.if-not-holds.true)

pub returns : goal.returns
returns c = λ done cut spaced ready.
    let inside = c.holds.ensures.0 c.if-not-holds.false in
    taken c.args.place done c.args.self.now _ c.in-Some.range c.front_part.result spaced ready c.in-Some.is inside.0 inside.1 refl c.front_part.ensures c.back_part-self.ensures (c.in_ok-push.ensures done cut)
