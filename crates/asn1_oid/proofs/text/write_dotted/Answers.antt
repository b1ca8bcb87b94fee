use Rattle.std.proofs.Common.{ℕ, true, List, ◌++◌, map, refl, sym, ap, ◌∙◌, append-nil}
use Rattle.std.proofs.Output.{has_written_append, has_written_of_eq}
use Rattle.std.specs.Prelude.{decimal}
use Rattle.asn1_oid.specs.Joining.{joined_after, separator_text}
use Rattle.asn1_oid.proofs.Joined.{joined, regroup}
use Rattle.asn1_oid.proofs.text.write_dotted.Goals as goal

pub loop-component-preserved : goal.loop-component-preserved
loop-component-preserved g c =
    λ plain.
    let now = c.loop-component.invariant plain in
    let took = g.W.Write.write_str_gives in
    let start = c.args.f.now in
    let between = separator_text c.loop-component.begun 0x2E in
    let piece = decimal c.in-Some.component in
    let first = c.in_ok-separate.ensures now.1.plain (refl {a = true}) in
    let second = c.in_ok-write.ensures.writes first.plain (refl {a = true}) in (
      (now.0 ++ between) ++ piece,
      has_written_append took start (now.0 ++ between) _ piece _ (has_written_append took start now.0 _ between _ now.1 first) second,
      regroup now.0 between piece (joined_after true 0x2E (map decimal c.next.new.self))
          ∙ ap (λ (l : List ℕ). now.0 ++ joined_after c.loop-component.begun 0x2E (map decimal l)) (sym c.in-Some.ensures.steps) ∙ now.2,
    )

pub returns : goal.returns
returns g c =
    λ plain ok.
    let now = c.loop-component.invariant plain in
    let end = ap (λ (l : List ℕ). now.0 ++ joined_after c.loop-component.begun 0x2E (map decimal l)) (sym c.in_default.ensures.steps.0) in
    let text = sym (append-nil now.0) ∙ end ∙ now.2 ∙ joined 0x2E (map decimal c.args.components) in
    has_written_of_eq _ _ _ _ _ text now.1
