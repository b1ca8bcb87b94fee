use Rattle.std.proofs.Common.{◌≡◌, sym, arith, Some}
use Rattle.asn1_any.specs.CutViews.{piece_of}
use Rattle.x509_core.specs.Reading.{first_piece}
use Rattle.x509_lists.proofs.entries.next_entries.Goals as goal

pub returns-in-Ok-clause-taken : goal.returns-in-Ok-clause-taken
returns-in-Ok-clause-taken c =
    let e = piece_of c.in-Some.element in
    let front : first_piece c.args.parts.now.octets ≡ Some e = sym c.in-Some.ensures.read in
    let shorter = c.advance.ensures.shorter e front in
    let content = c.in-Some.ensures.content in
    let most = c.in-Ok.ensures.most in
    omega (arith, most, shorter, content)
