use Rattle.x509_ext_points.specs.x509_ext_policies.specs.Policies as grammar
use Rattle.x509_ext_points.specs.x509_ext_policies.specs.View.{mappings_view}
use Rattle.x509_ext_parse.proofs.FaultLaws.{by_reads}
use Rattle.x509_ext_parse.proofs.others.policy_mappings.Goals as goal

pub returns-in-Err-clause-fault : goal.returns-in-Err-clause-fault
returns-in-Err-clause-fault c =
    let settled = rw c.in-Err.is at c.in_ok-parsed.ensures in
    by_reads (Unit {0}) (λ i v r. grammar.PolicyMappings i (mappings_view v) r) c.args.value.now c.from_der.result c.in-Err.error c.from_der.ensures.reads settled
