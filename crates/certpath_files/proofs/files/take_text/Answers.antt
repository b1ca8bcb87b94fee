use Rattle.certpath_files.specs.ReportViews.{held_in}
use Rattle.certpath_files.proofs.AddFacts.{in_two}
use Rattle.certpath_files.proofs.LoopFacts.{on_ok}
use Rattle.certpath_files.proofs.files.take_text.Goals as goal

pub returns : goal.returns
returns c =
    on_ok c.take_odd_lines.result _ _ c.take_odd_lines.ensures
    (λ last. in_two (held_in c.args.report.now) (held_in c.take_entries.new.report) (held_in c.take_odd_lines.new.report) _ _ c.in_ok-take_entries.ensures last)
