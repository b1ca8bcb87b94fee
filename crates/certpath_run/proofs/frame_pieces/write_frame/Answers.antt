use Rattle.std.proofs.Common.{refl, ap, ◌∙◌, ◌++◌}
use Rattle.certpath_run.specs.Report.{end_line}
use Rattle.certpath_run.proofs.PieceFacts.{passes_and_takes, passes_to_the_end, passes_front, front_of_all, front_before, on_ok, on_err}
use Rattle.certpath_run.proofs.frame_pieces.write_frame.Goals as goal

pub returns-in_err-write_items-clause-part : goal.returns-in_err-write_items-clause-part
returns-in_err-write_items-clause-part g c = on_err c.from_residual.result _ (front_before _ _ _ _ _ c.in_err-write_items.ensures.part refl)

pub returns-in_err-make_room-clause-part : goal.returns-in_err-make_room-clause-part
returns-in_err-make_room-clause-part g c =
    on_err c.from_residual-in_err-make_room.result _ (front_before _ _ _ _ _ (passes_front _ _ _ _ _ c.in_ok-write_items.ensures.ok c.in_err-make_room.ensures.part) refl)

pub returns-in_err-write_octets-clause-part : goal.returns-in_err-write_octets-clause-part
returns-in_err-write_octets-clause-part g c =
    let is = c.deref.ensures.value ∙ c.push_end.ensures ∙ ap (λ e. c.make_room.new.piece.items ++ end_line e) c.end.ensures in
    on_err c.from_residual-in_err-write_octets.result _ (passes_front _ _ _ _ _ (passes_and_takes _ _ _ _ _ _ _ _ c.in_ok-write_items.ensures.ok c.in_ok-make_room.ensures.ok is) c.in_err-write_octets.ensures.err)

pub returns-clause-ok : goal.returns-clause-ok
returns-clause-ok g c =
    let is = c.deref.ensures.value ∙ c.push_end.ensures ∙ ap (λ e. c.make_room.new.piece.items ++ end_line e) c.end.ensures in
    on_ok c.flush.result _ (passes_to_the_end _ _ _ _ _ _ _ _ _ _ c.in_ok-write_items.ensures.ok c.in_ok-make_room.ensures.ok is c.in_ok-write_octets.ensures.ok c.flush.ensures.octets)

pub returns-clause-part : goal.returns-clause-part
returns-clause-part g c =
    let is = c.deref.ensures.value ∙ c.push_end.ensures ∙ ap (λ e. c.make_room.new.piece.items ++ end_line e) c.end.ensures in
    on_err c.flush.result _ (front_of_all _ _ _ (passes_to_the_end _ _ _ _ _ _ _ _ _ _ c.in_ok-write_items.ensures.ok c.in_ok-make_room.ensures.ok is c.in_ok-write_octets.ensures.ok c.flush.ensures.octets))
