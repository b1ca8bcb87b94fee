use Rattle.std.proofs.Common.{◌≡◌, ℕ, true, List, ◌∷◌, ◌++◌, refl, sym, ap, ◌∙◌, append_assoc, append-nil, rules}
use Rattle.std.proofs.Output.{has_written_append, has_written_of_eq}
use Rattle.std.proofs.lemmas.List.{nil_from_length}
use Rattle.x509_names.specs.NameTexts.{upper_pair, upper_hex}
use Rattle.x509_names.proofs.value_text.write_hex.Goals as goal

pub loop-octet-preserved : goal.loop-octet-preserved
loop-octet-preserved g c =
    λ plain.
    let e : c.loop-octet.rest.now ≡ c.in-Some.octet.now ∷ c.in-Some.after.now = search rules in
    let now = c.loop-octet.invariant plain in
    let piece = upper_pair c.in-Some.octet.now in
    let step = c.in_ok-write_pair.ensures now.1.plain (refl {a = true}) in (
      now.0 ++ piece,
      has_written_append g.W.Write.write_str_gives c.args.f.now now.0 _ piece _ now.1 step,
      append_assoc now.0 piece (upper_hex c.in-Some.after.now) ∙ ap (λ (l : List ℕ). now.0 ++ upper_hex l) (sym e) ∙ now.2,
    )

pub returns : goal.returns
returns g c =
    λ plain ok.
    let now = c.loop-octet.invariant plain in
    let none = nil_from_length c.loop-octet.rest.now c.in_default.ensures.cases in
    let text = sym (append-nil now.0) ∙ ap (λ (l : List ℕ). now.0 ++ upper_hex l) (sym none) ∙ now.2 in
    has_written_of_eq _ _ _ _ _ text now.1
