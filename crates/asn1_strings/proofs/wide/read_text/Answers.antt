use Rattle.std.proofs.Common.{rules, inr, refl, ◌≡◌, ◌<◌, ◌∷◌, [], ◌++◌, length, string_bytes}
use Rattle.std.specs.Char.{encode_utf8}
use Rattle.asn1_strings.proofs.Reading.{read_more, read_stuck, read_text, text_more, no_octets}
use Rattle.asn1_strings.proofs.wide.read_text.Goals as goal

pub loop-rest-preserved : goal.loop-rest-preserved
loop-rest-preserved g c =
    let read = c.loop-rest.invariant in
    let more : string_bytes c.push.new.self ≡ string_bytes c.loop-rest.text ++ encode_utf8 c.in-Some.character = search rules in (
      read.0 ++ c.in-Some.character ∷ [],
      read_more g.F.WideForm.char_octets c.args.octets.now c.loop-rest.rest.now c.in-Some.after.now read.0 c.in-Some.character read.1 c.in-Some.ensures,
      text_more (string_bytes c.loop-rest.text) (string_bytes c.push.new.self) read.0 c.in-Some.character read.2 more,
    )

pub returns-in-None : goal.returns-in-None
returns-in-None g c =
    let read = c.loop-rest.invariant in
    let left : 0 < length c.loop-rest.rest.now = search rules in
    inr (refl, read_stuck g.F.WideForm.char_octets g.met.F.WideForm.some_octet g.met.F.WideForm.one_char c.args.octets.now c.loop-rest.rest.now read.0 read.1 left c.in-None.ensures)

pub returns : goal.returns
returns g c =
    let read = c.loop-rest.invariant in
    let none : length c.loop-rest.rest.now ≡ 0 = search rules in
    read_text g.F.WideForm.char_octets c.args.octets.now c.loop-rest.rest.now read.0 (string_bytes c.loop-rest.text) read.1 read.2 (no_octets c.loop-rest.rest.now none)
