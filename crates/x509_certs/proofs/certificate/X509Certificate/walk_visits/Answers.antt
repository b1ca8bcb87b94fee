use Rattle.std.proofs.Common.{rules, [], ◌∷◌}
use Rattle.x509_certs.proofs.Seen.{seen_then}
use Rattle.x509_certs.specs.Visits.{calls_of_tbs, visit_signature_algorithm, visit_signature_value}
use Rattle.x509_certs.proofs.certificate.X509Certificate.walk_visits.Goals as goal

pub returns : goal.returns
returns g c =
    let certificate = c.args.self.now in
    let back = visit_signature_algorithm certificate.signature_algorithm ∷ visit_signature_value certificate.signature_value ∷ [] in
    (c.visit.new.self, c.visit.ensures, seen_then g.V.CertVisits.sees _ _ c.visit-3.new.self (calls_of_tbs certificate.tbs_certificate) back c.walk_visits.ensures (search rules))
