use Rattle.std.proofs.Common.{◌++◌, subst}
use Rattle.std.specs.List.{FoldsTo}
use Rattle.x509_lists.proofs.Seen.{seen_then}
use Rattle.x509_lists.specs.Visits.{calls_of_fields, calls_of_entries, calls_of_extensions}
use Rattle.x509_lists.proofs.tbs.TbsCertList.walk_visits.Goals as goal

-- the fields, the entries and the extensions
pub returns : goal.returns
returns g c =
    let sees = g.V.ListVisits.sees in
    let tbs = c.args.self.now in
    let after_fields = c.walk_fields.new.visits in
    let after_entries = c.walk_entries.new.visits in
    let new = c.walk_extensions.new.visits in
    let entries : FoldsTo sees after_fields (calls_of_entries tbs.revoked_certificates.items) after_entries =
    subst (λ es. FoldsTo sees after_fields (calls_of_entries es) after_entries) c.as_slice.ensures.value c.walk_entries.ensures in
    let extensions : FoldsTo sees after_entries (calls_of_extensions tbs.extensions.items) new =
    subst (λ es. FoldsTo sees after_entries (calls_of_extensions es) new) c.extensions.ensures c.walk_extensions.ensures in
    seen_then sees c.args.visits.now after_fields new (calls_of_fields tbs) (calls_of_entries tbs.revoked_certificates.items ++ calls_of_extensions tbs.extensions.items)
    c.walk_fields.ensures
    (seen_then sees after_fields after_entries new (calls_of_entries tbs.revoked_certificates.items) (calls_of_extensions tbs.extensions.items) entries extensions)
