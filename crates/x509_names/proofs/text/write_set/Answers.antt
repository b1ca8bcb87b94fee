use Rattle.std.proofs.Common.{◌≡◌, ℕ, true, List, ◌∷◌, ◌++◌, map, refl, sym, ap, ◌∙◌, rules}
use Rattle.std.specs.Prelude.{codes}
use Rattle.std.specs.Slice.Iter.{iter_rest}
use Rattle.std.proofs.Output.{has_written_append}
use Rattle.x509_names.specs.View.{attribute_view}
use Rattle.x509_names.specs.Writing.{label_of, attribute_piece, separator_if, left_texts}
use Rattle.x509_names.proofs.TextLaws.{attribute_is_some, next_some, regroup}
use Rattle.x509_names.proofs.text.write_set.Goals as goal

pub loop-attribute-preserved : goal.loop-attribute-preserved
loop-attribute-preserved g c =
    λ plain.
    let e : iter_rest c.loop-attribute.rest ≡ c.in-Some.attribute.now ∷ iter_rest c.next.new.self = search rules in
    let now = c.loop-attribute.invariant plain in
    let took = g.W.Write.write_str_gives in
    let start = c.args.f.now in
    let label = label_of c.args.labels in
    let separator = codes " + " in
    let begun = c.loop-attribute.begun in
    let between = separator_if begun separator in
    let piece = attribute_piece label (attribute_view c.in-Some.attribute.now) in
    let after = map (attribute_piece label) (map attribute_view (iter_rest c.next.new.self)) in
    let first = c.in_ok-separate.ensures now.1.plain (refl {a = true}) in
    let second = c.in_ok-write_attribute.ensures first.plain (refl {a = true}) in (
      (now.0 ++ between) ++ piece,
      has_written_append took start (now.0 ++ between) _ piece _ (has_written_append took start now.0 _ between _ now.1 first) second,
      regroup now.0 between piece (left_texts true separator after)
          ∙ ap (λ (l : List ℕ). now.0 ++ l) (sym (next_some begun separator piece after (attribute_is_some label (attribute_view c.in-Some.attribute.now))))
          ∙ ap (λ l. now.0 ++ left_texts begun separator (map (attribute_piece label) (map attribute_view l))) (sym e)
          ∙ now.2,
    )
