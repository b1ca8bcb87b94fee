use Rattle.std.proofs.Common.{ℕ, List, Bor}
use Rattle.x509_ext_basic.specs.x509_time.specs.declared.time.ASN1Time.{ASN1Time}
use Rattle.x509_ext_parse.proofs.FaultLaws.{by_refused}
use Rattle.x509_ext_parse.proofs.leaves.invalidity_date.Goals as goal

pub returns-in_ok-error-in-Err-clause-fault : goal.returns-in_ok-error-in-Err-clause-fault
returns-in_ok-error-in-Err-clause-fault c = by_refused (Bor (List ℕ) × ASN1Time) c.args.value.now c.in-Err.refusal c.in_ok-error-in-Err.error c.in-Err.ensures.missing c.in_ok-error-in-Err.ensures.error
