use Rattle.certpath_why.proofs.NameLines.{empty_below, empty_shown, empty_whole, name_below, name_shown, name_whole, null_below, null_not_whole, null_shown, stopped_below, stopped_not_whole, stopped_shown}
use Rattle.certpath_why.proofs.laws_of_lines.examples_of_shown_names.Goals as goal

pub returns : goal.returns
returns c = record {
  name = (name_below, name_whole);
  name_shown = name_shown;
  empty = (empty_below, empty_whole);
  empty_shown = empty_shown;
  stopped = (stopped_below, stopped_not_whole);
  stopped_shown = stopped_shown;
  null = (null_below, null_not_whole);
  null_shown = null_shown;
}
