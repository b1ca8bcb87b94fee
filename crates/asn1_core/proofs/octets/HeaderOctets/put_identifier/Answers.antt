use Rattle.std.proofs.Common.{length, ap, arith, length-append}
use Rattle.std.specs.Int.Digits.{digits_of}
use Rattle.asn1_core.specs.Digits.{continued}
use Rattle.asn1_core.proofs.Spellings.{tag_digits, length-continued}
use Rattle.asn1_core.proofs.octets.HeaderOctets.put_identifier.Goals as goal

pub put_tag-requires-clause-room : goal.put_tag-requires-clause-room
put_tag-requires-clause-room c = omega (arith, tag_digits c.args.tag (omega arith), c.requires.room)

pub put-requires-else-tag-lt31 : goal.put-requires-else-tag-lt31
put-requires-else-tag-lt31 c =
    let all = ap length c.put_tag.ensures in
    omega (arith, tag_digits c.args.tag (omega arith), all, length-append (continued (digits_of 128 c.args.tag)) c.args.self.now, length-continued (digits_of 128 c.args.tag), c.requires.room)
