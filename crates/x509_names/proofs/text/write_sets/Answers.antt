use Rattle.std.proofs.Common.{◌≡◌, ℕ, ◌||◌, true, List, ◌∷◌, ◌++◌, map, refl, sym, ap, ◌∙◌, rules}
use Rattle.std.specs.Prelude.{codes}
use Rattle.std.specs.Slice.Iter.{iter_rest}
use Rattle.std.proofs.Output.{has_written_append}
use Rattle.x509_names.specs.View.{attribute_view, set_view}
use Rattle.x509_names.specs.Writing.{label_of, set_piece, separator_if, left_texts}
use Rattle.x509_names.proofs.TextLaws.{next_text, set_begins, regroup}
use Rattle.x509_names.proofs.text.write_sets.Goals as goal

pub loop-set-preserved : goal.loop-set-preserved
loop-set-preserved g c =
    λ plain.
    let e : iter_rest c.loop-set.rest ≡ c.in-Some.set.now ∷ iter_rest c.next.new.self = search rules in
    let attributes = c.as_slice-attributes.result.now in
    let same : attributes ≡ c.in-Some.set.now.set.items = search rules in
    let now = c.loop-set.invariant plain in
    let took = g.W.Write.write_str_gives in
    let start = c.args.f.now in
    let label = label_of c.args.labels in
    let separator = codes ", " in
    let begun = c.loop-set.begun in
    let between = separator_if begun separator in
    let piece = set_piece label (map attribute_view attributes) in
    let after = map (set_piece label) (map set_view (iter_rest c.next.new.self)) in
    let first = c.in_ok-separate.ensures now.1.plain (refl {a = true}) in
    let second = c.in_ok-write_set.ensures first.plain (refl {a = true}) in (
      (now.0 ++ between) ++ piece,
      has_written_append took start (now.0 ++ between) _ piece _ (has_written_append took start now.0 _ between _ now.1 first) second,
      regroup now.0 between piece (left_texts c.begun_after-begun.result separator after)
          ∙ ap (λ b. now.0 ++ (between ++ (piece ++ left_texts b separator after))) (c.begun_after-begun.ensures ∙ ap (λ s. begun || s) (set_begins label attribute_view attributes))
          ∙ ap (λ (l : List ℕ). now.0 ++ l) (sym (next_text begun separator piece after))
          ∙ ap (λ a. now.0 ++ left_texts begun separator (set_piece label (map attribute_view a) ∷ after)) same
          ∙ ap (λ l. now.0 ++ left_texts begun separator (map (set_piece label) (map set_view l))) (sym e)
          ∙ now.2,
    )
