-- How many certificates and lists there are, and how often something was left out. This page is to
-- be believed.
use Rattle.std.specs.Prelude.{ℕ, ◌+◌, List}
use Rattle.std.specs.List.{fold}
use Rattle.certpath_files.specs.Shapes.{Kind, certificate, list}
use Rattle.certpath_files.specs.Rows.{Shown, shown_item, shown_left_out}

pub record Counts : Type 0 where
  pub certificates : ℕ
  pub lists : ℕ
  pub left_out : ℕ

abbrev pub zero_counts : Counts
zero_counts = record { certificates = 0; lists = 0; left_out = 0 }

abbrev pub with_item : Counts → Kind → Counts
with_item counts certificate = record { certificates = counts.certificates + 1; lists = counts.lists; left_out = counts.left_out }
with_item counts list = record { certificates = counts.certificates; lists = counts.lists + 1; left_out = counts.left_out }

abbrev pub with_row : Counts → Shown → Counts
with_row counts (shown_item place kind size) = with_item counts kind
with_row counts (shown_left_out place reason) = record { certificates = counts.certificates; lists = counts.lists; left_out = counts.left_out + 1 }

abbrev pub with_rows : Counts → List Shown → Counts
with_rows counts rows = fold with_row counts rows
