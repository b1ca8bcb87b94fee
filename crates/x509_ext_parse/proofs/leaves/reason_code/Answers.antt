use Rattle.x509_core.specs.declared.error.X509Error.TheVariants as errors
use Rattle.asn1_core.specs.declared.error.Error.TheVariants as der
use Rattle.x509_ext_parse.proofs.FaultLaws.{by_missing, held_by}
use Rattle.x509_ext_parse.proofs.leaves.reason_code.Goals as goal

pub returns-in-Err-clause-fault : goal.returns-in-Err-clause-fault
returns-in-Err-clause-fault c =
    let settled = rw c.in-Err.is at c.in_ok-parsed.ensures in
    let given = c.reason_code.ensures in
    record {
      cut = by_missing c.args.value.now c.reason_code.result c.in-Err.error given.missing settled;
      content = λ content rest there none. held_by c.reason_code.result (errors.Der der.BerValueError) c.in-Err.error settled (given.refused content rest there none);
    }
