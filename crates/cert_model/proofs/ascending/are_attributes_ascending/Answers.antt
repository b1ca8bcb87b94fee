use Rattle.std.proofs.Common.{◌≡◌, ◌∙◌, ◌+◌, ◌-◌, ap, subst, ◌&&◌, Bool, map, length, take, drop, arith, length-drop}
use Rattle.std.proofs.lemmas.List.{drop-drop, take_all}
use Rattle.cert_model.specs.Octets.{attribute_octets}
use Rattle.cert_model.specs.Range.{are_ascending}
use Rattle.cert_model.specs.View.{attr_view}
use Rattle.cert_model.proofs.ascending.are_attributes_ascending.Goals as goal

-- the first two of what is left ascend, so what comes after the first decides
pub loop-i-preserved : goal.loop-i-preserved
loop-i-preserved c =
    let xs = c.args.attributes.now in
    let others = are_ascending (map attribute_octets (map attr_view (drop 1 (drop c.loop-i.i xs)))) in
    let whole : take (length xs - c.loop-i.i) (drop c.loop-i.i xs) ≡ drop c.loop-i.i xs = take_all (length xs - c.loop-i.i) (drop c.loop-i.i xs) (omega (arith, length-drop c.loop-i.i xs)) in
    let first : are_ascending (map attribute_octets (map attr_view (drop c.loop-i.i xs))) ≡ (c.is_first_at_most_second.result && others) =
    subst (λ rest. are_ascending (map attribute_octets (map attr_view rest)) ≡ (c.is_first_at_most_second.result && are_ascending (map attribute_octets (map attr_view (drop 1 rest))))) whole c.is_first_at_most_second.ensures in
    let told : (c.is_first_at_most_second.result && others) ≡ others = ap (λ (b : Bool). b && others) c.if-not-is_first_at_most_second.false in
    let moved : others ≡ are_ascending (map attribute_octets (map attr_view (drop (c.loop-i.i + 1) xs))) = ap (λ rest. are_ascending (map attribute_octets (map attr_view rest))) (drop-drop 1 c.loop-i.i xs) in
    c.loop-i.invariant ∙ first ∙ told ∙ moved
