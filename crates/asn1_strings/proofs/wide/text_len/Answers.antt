use Rattle.std.proofs.Common.{arith, ◌∙◌, ap, refl, length, length-append}
use Rattle.std.specs.Str.Iter.{chars_rest}
use Rattle.std.proofs.lemmas.Str.{IsUtf8-past_char}
use Rattle.asn1_strings.specs.Wide.{wide_octets}
use Rattle.asn1_strings.proofs.Writing.{next_char, no_char}
use Rattle.asn1_strings.proofs.wide.text_len.Goals as goal

pub returns-in-None : goal.returns-in-None
returns-in-None g c =
    let f = g.F.WideForm.char_octets in
    let step = next_char f (chars_rest c.loop-character.rest) (chars_rest c.next.new.self) c.in-Some.character c.loop-character.invariant.0 c.in-Some.ensures.steps.0 in
    let size = ap length (c.as_slice.ensures ∙ c.octets_of_char-octets.ensures) in
    (refl, omega (arith, c.in-None.ensures, c.loop-character.invariant.1, size, ap length step, length-append (f c.in-Some.character) (wide_octets f (chars_rest c.next.new.self))))

pub loop-character-preserved : goal.loop-character-preserved
loop-character-preserved g c =
    let f = g.F.WideForm.char_octets in
    let step = next_char f (chars_rest c.loop-character.rest) (chars_rest c.next.new.self) c.in-Some.character c.loop-character.invariant.0 c.in-Some.ensures.steps.0 in
    let size = ap length (c.as_slice.ensures ∙ c.octets_of_char-octets.ensures) in (
      IsUtf8-past_char (chars_rest c.loop-character.rest) (chars_rest c.next.new.self) c.in-Some.character c.loop-character.invariant.0 c.in-Some.ensures.steps.0,
      omega (arith, c.in-Some-checked_add.ensures, c.loop-character.invariant.1, size, ap length step, length-append (f c.in-Some.character) (wide_octets f (chars_rest c.next.new.self))),
      tt,
      tt,
    )

pub returns : goal.returns
returns g c =
    let none = no_char g.F.WideForm.char_octets (chars_rest c.loop-character.rest) c.in_default.ensures.steps.0.0 in
    omega (arith, c.loop-character.invariant.1, ap length none)
