use Rattle.std.proofs.Common.{refl, length}
use Rattle.certpath_files.specs.RowViews.{place_view}
use Rattle.certpath_files.specs.ShapeViews.{kind_view}
use Rattle.certpath_files.specs.declared.rows.Row.TheVariants.{Item}
use Rattle.certpath_files.proofs.PushedFacts.{item_pushed}
use Rattle.certpath_files.proofs.report.Report.take.Goals as goal

pub invariant_of-self-else-is_err : goal.invariant_of-self-else-is_err
invariant_of-self-else-is_err c = record {
  framed = item_pushed c.push.result c.is_err.result c.args.self.now.rows.items c.push.new.self.items (Item c.args.place c.args.kind (length c.args.octets.now)) c.args.self.now.octets.items c.extend_from_slice.new.self.items c.args.octets.now
      (place_view c.args.place) (kind_view c.args.kind) c.if-is_err.false c.is_err.ensures.value c.push.ensures.items refl c.in_ok-extend_from_slice.ensures.items c.requires c.args.self.now.framed;
}
