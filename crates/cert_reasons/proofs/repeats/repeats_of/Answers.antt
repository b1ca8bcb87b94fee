use Rattle.std.proofs.Common.{◌≡◌, length, arith, subst}
use Rattle.cert_judge.proofs.StandingFacts.{default_is}
use Rattle.cert_reasons.specs.Repeats.{AreRepeats}
use Rattle.cert_reasons.proofs.Repeating.{seen_none, seen_more}
use Rattle.cert_reasons.proofs.repeats.repeats_of.Goals as goal

pub loop-extension-init : goal.loop-extension-init
loop-extension-init c = rw c.in_ok-repeats.ensures.items (seen_none c.args.extensions.now c.new-seen.result c.new-seen.ensures.empty)

pub loop-extension-preserved : goal.loop-extension-preserved
loop-extension-preserved c =
    let es = c.args.extensions.now in
    let k = c.loop-extension.extension-index in
    let lt = c.loop-extension-test.true in
    rw c.in_ok-push.ensures.items (seen_more es k _ c.loop-extension.seen c.insert.new.self c.loop-extension.repeats.items c.in_ok-added.added lt (default_is es k _ lt) c.loop-extension.invariant c.in_ok-added.ensures.added (λ s. c.in_ok-added.ensures.updates.0 s))

pub returns : goal.returns
returns c =
    let end : c.loop-extension.extension-index ≡ length c.args.extensions.now = omega arith in
    subst (λ k. AreRepeats c.args.extensions.now k c.loop-extension.repeats.items) end c.loop-extension.invariant.marked
