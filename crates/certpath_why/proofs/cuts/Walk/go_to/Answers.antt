use Rattle.std.proofs.Common.{refl, get_or}
use Rattle.std.proofs.lemmas.List.{get_or_default}
use Rattle.certpath_why.specs.declared.ranges.Range.{Range}
use Rattle.certpath_why.proofs.Spacing.{ready_begun, ready_past, ready_at}
use Rattle.certpath_why.proofs.cuts.Walk.go_to.Goals as goal

pub returns-then-has_open : goal.returns-then-has_open
returns-then-has_open c = λ done cut spaced below. ready_begun c.args.place done c.args.self.now cut spaced below (c.has_open.ensures.0 c.if-has_open.true)

pub returns-in_default : goal.returns-in_default
returns-in_default c = λ done cut spaced below. ready_past c.args.place done c.args.self.now cut spaced below (λ s. c.in_default.ensures.none refl s)

pub returns : goal.returns
returns c = λ done cut spaced below.
    let left = c.args.self.now.rest.now in
    let at = c.in-Some.at in
    let lt = c.in-Some.ensures.found.0 in
    let d : Range = record { first = 0; last = 0 } in
    let x = get_or left at d in
    let inside = c.in-Some.ensures.found.1 d in
    ready_at c.args.place done c.args.self.now c.begin.new.self at x spaced lt (get_or_default left at x d lt) inside.0 inside.1 (c.in_ok-begin.ensures.cut done cut) (c.in_ok-begin.ensures.begun d) c.in_ok-begin.ensures.rest
