use Rattle.x509_ext_points.specs.x509_ext_names.specs.Extensions as grammar
use Rattle.x509_ext_points.specs.x509_ext_names.specs.View.{name_constraints_view}
use Rattle.x509_ext_parse.proofs.FaultLaws.{by_reads}
use Rattle.x509_ext_parse.proofs.general.name_constraints.Goals as goal

pub returns-in-Err-clause-fault : goal.returns-in-Err-clause-fault
returns-in-Err-clause-fault c =
    let settled = rw c.in-Err.is at c.in_ok-parsed.ensures in
    by_reads (Unit {0}) (λ i v r. grammar.NameConstraints i (name_constraints_view v) r) c.args.value.now c.from_der.result c.in-Err.error c.from_der.ensures.reads settled
