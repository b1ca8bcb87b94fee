use Rattle.std.proofs.Common.{true, ◌∷◌, [], ◌++◌, refl, sym, ap}
use Rattle.std.proofs.Output.{has_written_append, has_written_of_eq}
use Rattle.std.specs.Char.{encode_utf8}
use Rattle.std.specs.Str.{encode_utf8_all}
use Rattle.x509_names.specs.Writing.{or_nothing}
use Rattle.x509_names.proofs.WideLaws.{read_more, read_all, text_more}
use Rattle.x509_names.proofs.value_text.write_characters.Goals as goal

pub loop-character-preserved : goal.loop-character-preserved
loop-character-preserved g c =
    λ plain.
    let now = c.loop-character.invariant plain in
    let took = g.W.Write.write_str_gives in
    let start = c.args.f.now in
    let character = c.in-Some.character in
    let step = c.in_ok-write_char.ensures.writes now.2.plain (refl {a = true}) in (
      now.0 ++ character ∷ [],
      read_more c.args.content.now c.loop-character.rest.now c.in-Some.after.now now.0 character now.1 c.in-Some.ensures,
      has_written_of_eq took start _ _ _ (text_more now.0 character)
          (has_written_append took start (encode_utf8_all now.0) _ (encode_utf8 character) _ now.2 step),
    )

pub returns : goal.returns
returns g c =
    λ plain ok.
    let now = c.loop-character.invariant plain in
    let text = read_all c.args.content.now c.loop-character.rest.now now.0 c.requires now.1 c.in_default.ensures in
    has_written_of_eq _ _ _ _ _ (sym (ap or_nothing text)) now.2
