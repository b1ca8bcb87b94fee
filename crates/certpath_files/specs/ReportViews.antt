-- What a report holds.
use Rattle.std.specs.Prelude.{map}
use Rattle.certpath_files.specs.Rows.{Held}
use Rattle.certpath_files.specs.RowViews.{row_view}
use Rattle.certpath_files.specs.declared.report.Report.{Report}

abbrev pub held_in : Report → Held
held_in report = record { octets = report.octets.items; rows = map row_view report.rows.items }
