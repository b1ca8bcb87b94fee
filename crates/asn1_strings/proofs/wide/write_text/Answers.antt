use Rattle.std.proofs.Common.{arith, ◌∙◌, ap, sym, ◌++◌}
use Rattle.std.specs.Str.Iter.{chars_rest}
use Rattle.std.proofs.lemmas.Str.{IsUtf8-past_char}
use Rattle.asn1_strings.specs.Wide.{wide_octets}
use Rattle.asn1_strings.proofs.Writing.{next_char, no_char, sent_more, sent_stops, sent_too_long, sent_all}
use Rattle.asn1_strings.proofs.wide.write_text.Goals as goal

pub returns-in-Err : goal.returns-in-Err
returns-in-Err g c =
    let f = g.F.WideForm.char_octets in
    let more = wide_octets f (chars_rest c.next.new.self) in
    let step = next_char f (chars_rest c.loop-character.rest) (chars_rest c.next.new.self) c.in-Some.character c.loop-character.invariant.0 c.in-Some.ensures.steps.0 in
    let is = step ∙ ap (λ z. z ++ more) (sym (c.as_slice.ensures ∙ c.octets_of_char-octets.ensures)) in
    record { ok = tt; err = sent_stops (wide_octets f c.args.text.now) (wide_octets f (chars_rest c.loop-character.rest)) c.as_slice.result.now more _ _ _ _ _ _ _ c.in-Err.e c.loop-character.invariant.1 is c.in-Err.ensures.octets.err }

pub returns-in-None : goal.returns-in-None
returns-in-None g c =
    let f = g.F.WideForm.char_octets in
    let more = wide_octets f (chars_rest c.next.new.self) in
    let step = next_char f (chars_rest c.loop-character.rest) (chars_rest c.next.new.self) c.in-Some.character c.loop-character.invariant.0 c.in-Some.ensures.steps.0 in
    let is = step ∙ ap (λ z. z ++ more) (sym (c.as_slice.ensures ∙ c.octets_of_char-octets.ensures)) in
    record {
      ok = tt;
      err = sent_too_long (wide_octets f c.args.text.now) (wide_octets f (chars_rest c.loop-character.rest)) c.as_slice.result.now more _ _ _ _ _ _ _ c.in-Ok.n c.loop-character.invariant.1 is c.in-Ok.ensures.octets.ok (omega (arith, c.in-None.ensures));
    }

pub loop-character-preserved : goal.loop-character-preserved
loop-character-preserved g c =
    let f = g.F.WideForm.char_octets in
    let more = wide_octets f (chars_rest c.next.new.self) in
    let step = next_char f (chars_rest c.loop-character.rest) (chars_rest c.next.new.self) c.in-Some.character c.loop-character.invariant.0 c.in-Some.ensures.steps.0 in
    let is = step ∙ ap (λ z. z ++ more) (sym (c.as_slice.ensures ∙ c.octets_of_char-octets.ensures)) in (
      IsUtf8-past_char (chars_rest c.loop-character.rest) (chars_rest c.next.new.self) c.in-Some.character c.loop-character.invariant.0 c.in-Some.ensures.steps.0,
      sent_more (wide_octets f c.args.text.now) (wide_octets f (chars_rest c.loop-character.rest)) c.as_slice.result.now more _ _ _ _ _ _ c.loop-character.total c.in-Ok.n c.in-Some-checked_add.n
          c.loop-character.invariant.1 is c.in-Ok.ensures.octets.ok c.in-Some-checked_add.ensures.1,
      tt,
      tt,
    )

pub returns : goal.returns
returns g c =
    let f = g.F.WideForm.char_octets in
    let none = no_char f (chars_rest c.loop-character.rest) c.in_default.ensures.steps.0.0 in
    record { ok = sent_all (wide_octets f c.args.text.now) (wide_octets f (chars_rest c.loop-character.rest)) _ _ _ _ _ c.loop-character.invariant.1 none; err = tt }
