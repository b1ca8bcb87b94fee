use Rattle.x509_ext_parse.proofs.FaultLaws.{by_missing}
use Rattle.x509_ext_parse.proofs.leaves.crl_number.Goals as goal

pub returns-in-Err-clause-fault : goal.returns-in-Err-clause-fault
returns-in-Err-clause-fault c =
    let settled = rw c.in-Err.is at c.in_ok-parsed.ensures in
    by_missing c.args.value.now c.crl_number.result c.in-Err.error c.crl_number.ensures.missing settled
