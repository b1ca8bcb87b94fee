use Rattle.std.proofs.Common.{refl, [], ◌∷◌}
use Rattle.x509_lists.proofs.Seen.{seen_then}
use Rattle.x509_lists.specs.Visits.{visit_signature_algorithm, visit_signature_value, calls_of_tbs_list}
use Rattle.x509_lists.proofs.list.CertificateRevocationList.walk_visits.Goals as goal

-- the signed part, its parts, the algorithm and the signature
pub returns : goal.returns
returns g c =
    let list = c.args.self.now in (
      c.visit.new.self,
      c.visit.ensures,
      seen_then g.V.ListVisits.sees c.visit.new.self c.walk_visits.new.visits c.visit-3.new.self (calls_of_tbs_list list.tbs_cert_list)
          (visit_signature_algorithm list.signature_algorithm ∷ visit_signature_value list.signature_value ∷ [])
          c.walk_visits.ensures
          (c.visit-2.new.self, c.visit-2.ensures, (c.visit-3.new.self, c.visit-3.ensures, refl)),
    )
