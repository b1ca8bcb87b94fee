use Rattle.std.proofs.Common.{rules, ◌≡◌}
use Rattle.asn1_lists.proofs.Encoded.{set_stops}
use Rattle.asn1_lists.proofs.set_of.SetOfToDer.write_der_content.Goals as goal

pub returns-in-Err : goal.returns-in-Err
returns-in-Err g c =
    let held : c.as_slice.result.now ≡ c.args.self.now = search rules in
    record {
      ok = tt;
      err = set_stops g.T.ToDer.element g.T.ToDer.is_der (g.S.Sink.contents c.args.writer.now) (g.S.Sink.failures c.args.writer.now) c.args.self.now c.as_slice.result.now c.in-Err.e held c.in-Err.ensures.err;
    }
