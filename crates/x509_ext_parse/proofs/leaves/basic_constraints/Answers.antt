use Rattle.x509_ext_basic.specs.Leaves as grammar
use Rattle.x509_ext_basic.specs.View.{basic_constraints_view}
use Rattle.x509_core.specs.declared.error.X509Error.TheVariants as errors
use Rattle.asn1_core.specs.declared.error.Error.TheVariants as der
use Rattle.x509_ext_parse.proofs.FaultLaws.{by_reads, held_by}
use Rattle.x509_ext_parse.proofs.leaves.basic_constraints.Goals as goal

pub returns-in-Err-clause-fault : goal.returns-in-Err-clause-fault
returns-in-Err-clause-fault c =
    let settled = rw c.in-Err.is at c.in_ok-parsed.ensures in
    let given = c.from_der.ensures in
    record {
      cut = by_reads ⊥ (λ i v r. grammar.BasicConstraints i (basic_constraints_view v) r) c.args.value.now c.from_der.result c.in-Err.error given.reads settled;
      tag = λ content rest inner there none part. held_by c.from_der.result (errors.Der der.InvalidTag) c.in-Err.error settled (given.tag content rest inner there none part);
      length = λ content rest inner x left there none part. held_by c.from_der.result (errors.Der der.InvalidLength) c.in-Err.error settled (given.length content rest inner x left there none part);
    }
