use Rattle.std.proofs.Common.{◌≡◌, take}
use Rattle.std.specs.List.{fold}
use Rattle.certpath_bundle.specs.Counts.{zero_counts, with_rows}
use Rattle.certpath_bundle.specs.CountViews.{counts_view}
use Rattle.certpath_bundle.specs.Views.{found_view}
use Rattle.certpath_bundle.proofs.found.counts_of.Given as goal

abbrev pub invariant-loop-one : goal.invariant-loop-one
invariant-loop-one l = counts_view l.counts ≡ fold (λ counts one. with_rows counts (found_view one).held.rows) zero_counts (take l.one-index l.found)
