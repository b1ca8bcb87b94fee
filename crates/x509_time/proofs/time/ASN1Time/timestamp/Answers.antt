use Rattle.std.proofs.Common.{◌≡◌, ap, rules, arith, FitsSigned, w64}
use Rattle.std.proofs.lemmas.Int.{to_z-of_z}
use Rattle.jiff.specs.Words.{civil_nanos, civil_seconds}
use Rattle.jiff_core.proofs.DateTimeLemmas.{civil_nanos-civil_seconds}
use Rattle.jiff_core.proofs.SignedLemmas.{signed_arith}
use Rattle.x509_time.specs.Calls.{AreSeconds}
use Rattle.x509_time.proofs.time.ASN1Time.timestamp.Goals as goal

pub returns-clause-dropped : goal.returns-clause-dropped
returns-clause-dropped c =
    let moment = c.args.self.now.time in
    let fits : FitsSigned w64 c.to_second.result = search rules in
    let same : civil_seconds c.to_plain.result ≡ civil_seconds moment = ap civil_seconds c.to_plain.ensures in
    let here : AreSeconds (civil_nanos moment) c.to_second.result = omega (arith, signed_arith, c.to_second.ensures.value, same, civil_nanos-civil_seconds moment, moment.time.subsec_in) in
    rw (to_z-of_z w64 c.to_second.result fits) here
