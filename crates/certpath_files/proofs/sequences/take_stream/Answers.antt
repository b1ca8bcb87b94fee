use Rattle.std.proofs.Common.{◌≡◌, ◌∙◌, sym, ap, length, ◌+◌, ◌-◌, arith, Some}
use Rattle.std.proofs.lemmas.List.{take_rest}
use Rattle.certpath_files.specs.Fronts.{size_in, front_of}
use Rattle.certpath_files.specs.FrontViews.{front_view}
use Rattle.certpath_files.specs.Rows.{added, at, octet}
use Rattle.certpath_files.specs.ReportViews.{held_in}
use Rattle.certpath_files.specs.Walks.{front_rows}
use Rattle.certpath_files.specs.Sequences.{item_or_signed_data, sequence_rows, rows_at, stream_rows}
use Rattle.certpath_files.proofs.LoopFacts.{walk_step, walk_stop, within_at, shorter_by, some_there}
use Rattle.certpath_files.proofs.sequences.take_stream.Goals as goal

pub returns-in_default : goal.returns-in_default
returns-in_default c =
    let rest = c.loop-rest.rest.now in
    let offset = length c.args.octets.now - length rest in
    walk_stop front_of rows_at offset c.loop-rest.invariant.0 rest (held_in c.loop-rest.report) (held_in c.take_front.new.report) (added (held_in c.args.report.now) (stream_rows c.args.octets.now))
    (some_there rest (sym c.is_empty.ensures ∙ c.loop-rest-test.true)) (ap size_in (sym c.front_of-front.ensures.value) ∙ sym c.in_default.ensures)
    (c.in_ok-take_front.ensures ∙ ap (λ z. added (held_in c.loop-rest.report) (front_rows (at (octet offset)) (sequence_rows item_or_signed_data (octet offset)) rest z)) c.front_of-front.ensures.value) c.loop-rest.invariant.1.0

pub loop-rest-preserved : goal.loop-rest-preserved
loop-rest-preserved c =
    let rest = c.loop-rest.rest.now in
    let offset = length c.args.octets.now - length rest in
    let known : size_in (front_view c.front_of-front.result) ≡ Some c.in-Some.size = sym c.in-Some.ensures in
    let within = within_at (size_in (front_view c.front_of-front.result)) c.in-Some.size (length rest) known c.front_of-front.ensures.within in
    let next = take_rest rest c.in-Some.size in (
      c.loop-rest.invariant.0 + 1,
      (
        walk_step front_of rows_at c.args.octets.now rest _ c.loop-rest.invariant.0 c.in-Some.size (held_in c.loop-rest.report) (held_in c.take_front.new.report) (added (held_in c.args.report.now) (stream_rows c.args.octets.now)) next
            (ap size_in (sym c.front_of-front.ensures.value) ∙ known) within c.loop-rest.invariant.1.1
            (c.in_ok-take_front.ensures ∙ ap (λ z. added (held_in c.loop-rest.report) (front_rows (at (octet offset)) (sequence_rows item_or_signed_data (octet offset)) rest z)) c.front_of-front.ensures.value) c.loop-rest.invariant.1.0,
        omega (arith, c.loop-rest.invariant.1.1, shorter_by _ rest c.in-Some.size next within.0 within.1),
      ),
    )
