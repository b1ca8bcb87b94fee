use Rattle.std.proofs.Common.{refl}
use Rattle.certpath_files.specs.RowViews.{place_view, reason_view}
use Rattle.certpath_files.specs.declared.rows.Row.TheVariants.{LeftOut}
use Rattle.certpath_files.proofs.PushedFacts.{left_out_pushed}
use Rattle.certpath_files.proofs.report.Report.leave.Goals as goal

pub invariant_of-self : goal.invariant_of-self
invariant_of-self c = record {
  framed = left_out_pushed c.push.result c.args.self.now.rows.items c.push.new.self.items (LeftOut c.args.place c.args.reason) c.args.self.now.octets.items (place_view c.args.place) (reason_view c.args.reason)
      c.push.ensures.items refl c.args.self.now.framed;
}
