use Rattle.certpath_bundle.specs.Lines.{file_lines}
use Rattle.certpath_bundle.specs.Views.{found_view}
use Rattle.certpath_bundle.proofs.Loops.{mapped_all}
use Rattle.certpath_bundle.proofs.found.push_all_lines.Goals as goal

pub returns : goal.returns
returns c = mapped_all (λ one. file_lines one.name one.held.rows) found_view c.args.found.now c.loop-one.one-index _ _ c.loop-one-test.false c.loop-one.invariant
