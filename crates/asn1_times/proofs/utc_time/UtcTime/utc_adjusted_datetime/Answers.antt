use Rattle.std.proofs.Common.{refl, arith}
use Rattle.asn1_times.proofs.MomentLemmas.{late_year}
use Rattle.asn1_times.proofs.utc_time.UtcTime.utc_adjusted_datetime.Goals as goal

pub returns-then-self-gt9999-clause-exact : goal.returns-then-self-gt9999-clause-exact
returns-then-self-gt9999-clause-exact c = (late_year c.args.self.now.0.year c.args.self.now.0 (omega arith), refl)
