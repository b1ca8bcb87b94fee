use Rattle.std.proofs.Common.{rules, arith}
use Rattle.certpath_run.proofs.FrameFacts.{item_fits}
use Rattle.certpath_run.proofs.PieceFacts.{lines_begin, line_passes, lines_stop, lines_end, on_err}
use Rattle.certpath_run.proofs.frame_pieces.write_items.Goals as goal

pub loop-k-init : goal.loop-k-init
loop-k-init g c = record {
  passed = lines_begin _ _ _ c.requires.empty;
  room = search rules;
  failures = search rules;
  flushes = search rules;
}

pub overflow_add-offset : goal.overflow_add-offset
overflow_add-offset g c =
    let within = item_fits _ _ _ _ _ c.loop-k.invariant.passed.writes c.get-size.ensures in
    omega (arith, within, c.len-k-end.ensures.fits)

pub loop-k-preserved : goal.loop-k-preserved
loop-k-preserved g c = record {
  passed = line_passes _ _ _ _ _ _ _ _ _ _ c.loop-k.invariant.passed c.in_ok-make_room.ensures.ok c.push_item.ensures.line c.get-size.ensures;
  room = omega arith;
  failures = search rules;
  flushes = search rules;
}

pub returns-in_err-make_room-clause-part : goal.returns-in_err-make_room-clause-part
returns-in_err-make_room-clause-part g c =
    on_err c.from_residual.result _ (lines_stop _ _ _ _ _ _ _ c.loop-k.invariant.passed c.in_err-make_room.ensures.part)

pub returns-clause-ok : goal.returns-clause-ok
returns-clause-ok g c = lines_end _ _ _ _ _ _ (omega (arith, c.loop-k-test.false, c.len-k-end.ensures.len)) c.loop-k.invariant.passed
