-- What leads on through the extensions that are left leads through all of them.
use Rattle.std.proofs.Common.{drop}
use Rattle.std.specs.List.{FoldsTo}
use Rattle.x509_lists.specs.Visits.{calls_of_each}
use Rattle.x509_lists.proofs.walk.walk_each_extension.Given as goal

abbrev pub invariant-loop-extension : goal.invariant-loop-extension
invariant-loop-extension g l =
    (new : _)
    → FoldsTo g.V.ListVisits.sees l.visits (calls_of_each (drop l.extension-index l.fn.extensions)) new
    → FoldsTo g.V.ListVisits.sees l.fn.visits (calls_of_each l.fn.extensions) new
