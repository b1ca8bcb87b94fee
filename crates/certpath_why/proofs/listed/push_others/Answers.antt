use Rattle.std.proofs.Common.{◌∙◌, ap, append_assoc, ◌++◌, codes, string_bytes}
use Rattle.certpath_why.specs.Listed.{shown_part}
use Rattle.certpath_why.proofs.Texts.{lines_none, lines_more, lines_all}
use Rattle.certpath_why.proofs.listed.push_others.Goals as goal

pub loop-part-init : goal.loop-part-init
loop-part-init g c = lines_none (λ y. codes ", " ++ shown_part (g.P.Part.text_of y)) c.args.parts.now _

pub loop-part-preserved : goal.loop-part-preserved
loop-part-preserved g c =
    let shown = shown_part (g.P.Part.text_of c.part-item.result) in
    lines_more (λ y. codes ", " ++ shown_part (g.P.Part.text_of y)) c.args.parts.now c.loop-part.part-index c.part-item.result _ _ _ c.loop-part-test.true c.loop-part.invariant
    (c.in_ok-push_shown.ensures ∙ ap (λ t. t ++ shown) c.in_ok-push_str.ensures.bytes ∙ append_assoc (string_bytes c.loop-part.text) (codes ", ") shown
    ∙ ap (λ x. string_bytes c.loop-part.text ++ (codes ", " ++ shown_part (g.P.Part.text_of x))) c.part-item.is)

pub returns : goal.returns
returns g c = lines_all (λ y. codes ", " ++ shown_part (g.P.Part.text_of y)) c.args.parts.now c.loop-part.part-index _ _ c.loop-part-test.false c.loop-part.invariant
