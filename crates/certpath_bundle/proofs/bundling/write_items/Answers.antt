use Rattle.std.proofs.Common.{rules, ap, subst, ◌∙◌}
use Rattle.std.specs.Io.KnownBytes.{Appends}
use Rattle.asn1_device.specs.Counts.{AppendsFront}
use Rattle.certpath_bundle.specs.Views.{found_view}
use Rattle.certpath_bundle.proofs.Loops.{lines_of_map, from_ok, from_err}
use Rattle.certpath_bundle.proofs.Writing.{wrote_more, wrote_all, wrote_part}
use Rattle.certpath_bundle.proofs.bundling.write_items.Goals as goal

pub loop-one-preserved : goal.loop-one-preserved
loop-one-preserved g c = record {
  wrote = wrote_more (λ one. one.report.octets.items) c.args.found.now c.loop-one.one-index c.one-item.result _ _ _ c.loop-one-test.true c.loop-one.invariant.wrote
      (
      subst (Appends (g.W.Sink.contents c.loop-one.writer) (g.W.Sink.contents c.write_octets.new.writer)) (c.as_slice.ensures.value ∙ ap (λ one. one.report.octets.items) c.one-item.is)
      (from_ok c.write_octets.result c.is_err.result _ c.if-is_err.false c.is_err.ensures.value c.write_octets.ensures.ok)
      );
  failures = search rules;
  flushes = search rules;
}

pub returns-then-is_err-clause-part : goal.returns-then-is_err-clause-part
returns-then-is_err-clause-part g c =
    subst (AppendsFront (g.W.Sink.contents c.args.writer.now) (g.W.Sink.contents c.write_octets.new.writer)) (lines_of_map (λ one. one.held.octets) found_view c.args.found.now)
    (
    wrote_part (λ one. one.report.octets.items) c.args.found.now c.loop-one.one-index c.one-item.result _ _ _ c.loop-one-test.true c.loop-one.invariant.wrote
    (
    subst (AppendsFront (g.W.Sink.contents c.loop-one.writer) (g.W.Sink.contents c.write_octets.new.writer)) (c.as_slice.ensures.value ∙ ap (λ one. one.report.octets.items) c.one-item.is)
    (from_err c.write_octets.result c.is_err.result _ c.if-is_err.true c.is_err.ensures.value c.write_octets.ensures.err)
    )
    )

pub returns : goal.returns
returns g c = record {
  ok = subst (Appends (g.W.Sink.contents c.args.writer.now) (g.W.Sink.contents c.loop-one.writer)) (lines_of_map (λ one. one.held.octets) found_view c.args.found.now)
      (wrote_all (λ one. one.report.octets.items) c.args.found.now c.loop-one.one-index _ _ c.loop-one-test.false c.loop-one.invariant.wrote);
  part = tt;
  only = tt;
  write = search rules;
  flushes = search rules;
}
