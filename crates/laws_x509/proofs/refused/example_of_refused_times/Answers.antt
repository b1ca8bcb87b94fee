use Rattle.std.proofs.Common.{refl}
use Rattle.x509_core.specs.declared.error.X509Error.TheVariants as errors
use Rattle.laws_x509.specs.RefusedOctets as refused
use Rattle.laws_x509.proofs.Below.{below_tested}
use Rattle.laws_x509.proofs.TimeSteps.{time_only, validity_only, update_only}
use Rattle.laws_x509.proofs.RefusedParts.{no_time_there, no_start, no_end, no_update}
use Rattle.laws_x509.proofs.refused.example_of_refused_times.Goals as goal

pub returns-clause-time : goal.returns-clause-time
returns-clause-time c = let below = below_tested refused.empty refl in (below, time_only errors.InvalidDate refused.empty below no_time_there, no_time_there)

pub returns-clause-not_before : goal.returns-clause-not_before
returns-clause-not_before c = let below = below_tested refused.empty refl in (below, validity_only errors.InvalidDate refused.empty below no_start, no_start)

pub returns-clause-not_after : goal.returns-clause-not_after
returns-clause-not_after c = let below = below_tested refused.no_end refl in (below, validity_only errors.InvalidDate refused.no_end below no_end, no_end)

pub returns-clause-update : goal.returns-clause-update
returns-clause-update c = let below = below_tested refused.constructed_time refl in (below, update_only errors.InvalidDate refused.constructed_time below no_update, no_update)
