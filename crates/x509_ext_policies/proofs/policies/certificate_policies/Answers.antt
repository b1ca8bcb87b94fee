use Rattle.std.proofs.Common.{arith, map}
use Rattle.asn1_core.proofs.Numbers.{octets_below}
use Rattle.x509_core.proofs.Public.{gives_found, gives_only}
use Rattle.x509_ext_policies.specs.Policies as grammar
use Rattle.x509_ext_policies.specs.Reading.{policies_at}
use Rattle.x509_ext_policies.specs.View.{policy_view}
use Rattle.x509_ext_policies.proofs.Laws.{policies_reading}
use Rattle.x509_ext_policies.proofs.policies.certificate_policies.Goals as goal

pub returns-clause-found : goal.returns-clause-found
returns-clause-found c =
    gives_found grammar.CertificatePolicies policies_at policies_reading (λ v. map policy_view v.items) c.args.i.now c.policies_at_front.result
    (octets_below c.args.i.now (λ k. omega (arith, c.type_inv.i k))) c.policies_at_front.ensures

pub returns-clause-only : goal.returns-clause-only
returns-clause-only c =
    gives_only grammar.CertificatePolicies policies_at policies_reading (λ v. map policy_view v.items) c.args.i.now c.policies_at_front.result
    (octets_below c.args.i.now (λ k. omega (arith, c.type_inv.i k))) c.policies_at_front.ensures
