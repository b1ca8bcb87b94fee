use Rattle.std.proofs.Common.{◌≡◌, ◌∙◌, sym, true, false}
use Rattle.certpath_pem.specs.Labels.{begins_with}
use Rattle.certpath_pem.proofs.HoldFacts.{held_more, held_here, held_end}
use Rattle.certpath_pem.proofs.labels.holds.Goals as goal

pub loop-after-preserved : goal.loop-after-preserved
loop-after-preserved c =
    let not : begins_with c.args.words.now c.loop-after.rest.now ≡ false = sym c.begins_with.ensures ∙ c.if-begins_with.false in
    sym (held_more c.args.words.now c.loop-after.rest.now c.in-Some.after.now _ c.in-Some.ensures.cases.0 not) ∙ c.loop-after.invariant

pub returns-then-begins_with : goal.returns-then-begins_with
returns-then-begins_with c =
    let yes : begins_with c.args.words.now c.loop-after.rest.now ≡ true = sym c.begins_with.ensures ∙ c.if-begins_with.true in
    sym (held_here c.args.words.now c.loop-after.rest.now yes) ∙ c.loop-after.invariant

pub returns : goal.returns
returns c = c.begins_with-2.ensures ∙ sym (held_end c.args.words.now c.loop-after.rest.now c.in_default.ensures.cases) ∙ c.loop-after.invariant
