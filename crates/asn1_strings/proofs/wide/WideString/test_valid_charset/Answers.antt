use Rattle.std.proofs.Common.{rules, refl, ◌<◌, ◌∷◌, [], ◌++◌, length}
use Rattle.asn1_strings.proofs.Reading.{read_more, read_stuck}
use Rattle.asn1_strings.proofs.wide.WideString.test_valid_charset.Goals as goal

pub loop-rest-preserved : goal.loop-rest-preserved
loop-rest-preserved g c =
    let read = c.loop-rest.invariant in
    (read.0 ++ c.in-Some.field-0-0 ∷ [], read_more g.F.WideForm.char_octets c.args.octets.now c.loop-rest.rest.now c.in-Some.after.now read.0 c.in-Some.field-0-0 read.1 c.in-Some.ensures)

pub returns-in-None : goal.returns-in-None
returns-in-None g c =
    let read = c.loop-rest.invariant in
    let left : 0 < length c.loop-rest.rest.now = search rules in
    (refl, read_stuck g.F.WideForm.char_octets g.met.F.WideForm.some_octet g.met.F.WideForm.one_char c.args.octets.now c.loop-rest.rest.now read.0 read.1 left c.in-None.ensures)
