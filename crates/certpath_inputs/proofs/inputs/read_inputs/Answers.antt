use Rattle.certpath_inputs.specs.Inputs.{MeetsRefusal}
use Rattle.certpath_inputs.proofs.InputFacts.{text_refused, if_handed_on}
use Rattle.certpath_inputs.proofs.inputs.read_inputs.Goals as goal

pub returns-in_err-vouchers-clause-refused : goal.returns-in_err-vouchers-clause-refused
returns-in_err-vouchers-clause-refused g c =
    let e = c.in_err-vouchers.field-0.0 in
    let read = c.in_ok-pairs.ensures.ok in
    let P = MeetsRefusal (g.B.Source.remaining c.args.bundle.now) (g.B.Source.remaining c.stream_of.new.reader) (g.A.Source.remaining c.args.anchors.now) (g.A.Source.remaining c.stream_of-2.new.reader) (g.V.Source.remaining c.args.vouchers.now)
    (g.V.Source.remaining c.pairs_in.new.reader) c.args.limit in
    if_handed_on c.from_residual-in_err-vouchers.result e P c.from_residual-in_err-vouchers.ensures.1
    (text_refused _ _ _ _ _ _ c.args.limit c.in_ok-items.items c.in_ok-anchors.anchors read.text e c.in_ok-items.ensures.ok c.in_ok-anchors.ensures.ok read.read (c.in_err-vouchers.ensures.refused read.text read.taken))

pub returns-clause-ok : goal.returns-clause-ok
returns-clause-ok g c =
    let read = c.in_ok-pairs.ensures.ok in record {
      items_read = c.in_ok-items.ensures.ok;
      anchors_read = c.in_ok-anchors.ensures.ok;
      text = read.text;
      text_read = read.read;
      pairs_are = c.in_ok-vouchers.ensures.ok read.text read.taken;
    }
