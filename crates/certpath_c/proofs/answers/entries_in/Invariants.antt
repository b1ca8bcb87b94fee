use Rattle.std.proofs.Common.{◌≡◌, ◌++◌, drop, map, take}
use Rattle.std.specs.List.{AllByRecursion}
use Rattle.certpath_c.specs.Answers.{rows_entries, FitsRow}
use Rattle.certpath_c.proofs.answers.entries_in.Given as goal

abbrev pub invariant-loop-row : goal.invariant-loop-row
invariant-loop-row l = record { all : l.entries.items ++ rows_entries (drop l.row-index (map (λ r. r.items) l.rows)) ≡ rows_entries (map (λ r. r.items) l.rows); fit : AllByRecursion FitsRow (take l.row-index (map (λ r. r.items) l.rows)) }
