use Rattle.asn1_traits.proofs.Writing.{header_stopped, content_stopped, whole_too_long}
use Rattle.std.proofs.Common.{rules, arith}
use Rattle.asn1_traits.specs.Writes.{IsLong, written}
use Rattle.asn1_traits.proofs.write.ToDer.write_der.Goals as goal

pub returns-in-Err : goal.returns-in-Err
returns-in-Err g c =
    let o = g.Self.ToDer.element c.args.self.now in
    record {
      octets = header_stopped o _ _ _ _ (IsLong (written o)) _ _ c.in-Err.e c.in-Err.ensures.err;
      in_form = search rules;
      unwritten = search rules;
    }

pub returns-in-Err-write_der_content : goal.returns-in-Err-write_der_content
returns-in-Err-write_der_content g c =
    let o = g.Self.ToDer.element c.args.self.now in
    record {
      octets = content_stopped o _ _ _ _ _ _ c.in-Ok.n _ _ c.in-Err-write_der_content.e c.in-Ok.ensures.ok c.in-Err-write_der_content.ensures.err;
      in_form = search rules;
      unwritten = search rules;
    }

pub returns-in-None : goal.returns-in-None
returns-in-None g c =
    let o = g.Self.ToDer.element c.args.self.now in
    record {
      octets = whole_too_long o _ _ _ _ _ _ c.in-Ok.n c.in-Ok-write_der_content.n _ _ c.in-Ok.ensures.ok c.in-Ok-write_der_content.ensures.ok (omega arith);
      in_form = search rules;
      unwritten = search rules;
    }
