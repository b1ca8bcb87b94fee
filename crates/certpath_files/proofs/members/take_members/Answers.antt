use Rattle.std.proofs.Common.{◌≡◌, ◌∙◌, sym, ap, length, arith, Some}
use Rattle.std.proofs.lemmas.List.{take_rest}
use Rattle.certpath_files.specs.Fronts.{size_in}
use Rattle.certpath_files.specs.FrontViews.{front_view}
use Rattle.certpath_files.specs.ShapeViews.{kind_view}
use Rattle.certpath_files.specs.Rows.{added}
use Rattle.certpath_files.specs.RowViews.{spot_view}
use Rattle.certpath_files.specs.ReportViews.{held_in}
use Rattle.certpath_files.specs.Walks.{front_rows}
use Rattle.certpath_files.specs.Sequences.{item_rows, member_front, member_place, rows_of_member, member_rows}
use Rattle.certpath_files.proofs.LoopFacts.{walk_step, within_at, shorter_by}
use Rattle.certpath_files.proofs.members.take_members.Goals as goal

pub loop-rest-preserved : goal.loop-rest-preserved
loop-rest-preserved c =
    let spot = spot_view c.args.spot in
    let set = kind_view c.args.set in
    let place = member_place spot set c.loop-rest.number in
    let rest = c.loop-rest.rest.now in
    let front = c.member_front-front.result in
    let known : size_in (front_view front) ≡ Some c.in-Some.size = sym c.in-Some.ensures in
    let within = within_at (size_in (front_view front)) c.in-Some.size (length rest) known c.member_front-front.ensures.within in
    let next = take_rest rest c.in-Some.size in
    record {
      rows = walk_step member_front (rows_of_member spot set) c.args.content.now rest _ c.loop-rest.number c.in-Some.size (held_in c.loop-rest.report) (held_in c.take_member.new.report)
          (added (held_in c.args.report.now) (member_rows spot set c.args.content.now)) next (ap size_in (sym c.member_front-front.ensures.value) ∙ known) within (omega (arith, c.loop-rest.invariant.few))
          (c.in_ok-take_member.ensures ∙ ap (λ z. added (held_in c.loop-rest.report) (front_rows place (item_rows place) rest z)) c.member_front-front.ensures.value) c.loop-rest.invariant.rows;
      few = omega (arith, c.loop-rest.invariant.few, shorter_by _ rest c.in-Some.size next within.0 within.1);
    }
