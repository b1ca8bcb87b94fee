use Rattle.std.proofs.Common.{rules, ◌≡◌, ◌∙◌, sym, ap, true, false}
use Rattle.cert_model.specs.Range.{is_at_most}
use Rattle.certcheck.specs.Ascending.{ascend_after}
use Rattle.certcheck.specs.Windows.{trees_in}
use Rattle.certcheck.proofs.WindowTrees.{first_more, first_none}
use Rattle.certcheck.proofs.ElementTrees.{octets_of_tree}
use Rattle.certcheck.proofs.Ascending.{ascend_next, ascend_stops}
use Rattle.certcheck.proofs.names.ascend_after.Goals as goal

pub loop-after-preserved : goal.loop-after-preserved
loop-after-preserved c =
    let le : is_at_most c.loop-after.last.now c.front_of-next.result.now ≡ true = search rules in
    ascend_next c.loop-after.last.now c.front_of-next.result.now (trees_in c.loop-after.rest.now) _ _ (first_more (trees_in c.loop-after.rest.now) _ _ c.in-Some.ensures.trees)
    (c.front_of-next.ensures _ c.in-Some.ensures.octets ∙ sym (octets_of_tree _)) le
    ∙ c.loop-after.invariant

pub returns-then-not-is_at_most : goal.returns-then-not-is_at_most
returns-then-not-is_at_most c =
    let greater : is_at_most c.loop-after.last.now c.front_of-next.result.now ≡ false = search rules in
    ascend_stops c.loop-after.last.now c.front_of-next.result.now (trees_in c.loop-after.rest.now) _ _ (first_more (trees_in c.loop-after.rest.now) _ _ c.in-Some.ensures.trees)
    (c.front_of-next.ensures _ c.in-Some.ensures.octets ∙ sym (octets_of_tree _)) greater
    ∙ c.loop-after.invariant

pub returns : goal.returns
returns c = sym (ap (ascend_after c.loop-after.last.now) (first_none (trees_in c.loop-after.rest.now) c.in_default.ensures.trees)) ∙ c.loop-after.invariant
