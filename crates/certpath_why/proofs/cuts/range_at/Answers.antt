use Rattle.std.proofs.Common.{◌≤◌, subst}
use Rattle.std.proofs.lemmas.List.{get_or_default}
use Rattle.certpath_why.specs.declared.ranges.Range.{Range}
use Rattle.certpath_why.proofs.Spacing.{not_held, not_true}
use Rattle.certpath_why.proofs.cuts.range_at.Goals as goal

pub returns-else-holds-clause-none : goal.returns-else-holds-clause-none
returns-else-holds-clause-none c = λ e spaced.
    let rs = c.args.ranges.now in
    let at = c.count_before-at.result in
    let lt = c.if-at-ranges.false in
    let behind = λ (d : Range). c.count_before-at.ensures.past spaced d lt in
    not_held rs c.args.place at spaced (c.count_before-at.ensures.before spaced) behind lt
    (λ d low. not_true _ (c.holds.ensures.1 (subst (λ (x : Range). x.first ≤ c.args.place) (get_or_default rs at d _ lt) low, behind _)) c.if-holds.false)
