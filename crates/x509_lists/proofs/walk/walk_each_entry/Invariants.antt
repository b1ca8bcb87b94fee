-- What leads on through the entries that are left leads through all of them.
use Rattle.std.proofs.Common.{drop, map}
use Rattle.std.specs.List.{FoldsTo}
use Rattle.x509_lists.specs.Visits.{visit_revoked_certificate}
use Rattle.x509_lists.proofs.walk.walk_each_entry.Given as goal

abbrev pub invariant-loop-entry : goal.invariant-loop-entry
invariant-loop-entry g l =
    (new : _)
    → FoldsTo g.V.ListVisits.sees l.visits (map visit_revoked_certificate (drop l.entry-index l.fn.entries)) new
    → FoldsTo g.V.ListVisits.sees l.fn.visits (map visit_revoked_certificate l.fn.entries) new
