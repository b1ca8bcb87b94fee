use Rattle.std.proofs.Common.{drop}
use Rattle.std.specs.List.{FoldsTo}
use Rattle.x509_certs.specs.Visits.{calls_of_extensions}
use Rattle.x509_certs.proofs.walk.walk_extensions.Given as goal

-- what leads on through the extensions that are left leads through all of them
abbrev pub invariant-loop-extension : goal.invariant-loop-extension
invariant-loop-extension g l =
    (new : _)
    → FoldsTo g.V.CertVisits.sees l.visits (calls_of_extensions (drop l.extension-index l.extensions)) new
    → FoldsTo g.V.CertVisits.sees l.fn.visits (calls_of_extensions l.fn.extensions) new
