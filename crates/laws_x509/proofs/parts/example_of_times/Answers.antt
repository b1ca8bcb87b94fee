use Rattle.std.proofs.Common.{[], Some, refl}
use Rattle.x509_time.specs.Examples.{period, period_octets, start, start_octets}
use Rattle.x509_time.specs.Updates.{there}
use Rattle.x509_time.proofs.Items.{start_is, period_is}
use Rattle.x509_time.proofs.TimeLaws.{time_reading, validity_reading}
use Rattle.x509_time.proofs.UpdateLaws.{update_reading}
use Rattle.laws_x509.proofs.OfParts.{start_below, period_below}
use Rattle.laws_x509.proofs.parts.example_of_times.Goals as goal

pub returns-clause-time : goal.returns-clause-time
returns-clause-time c = (start_below, start_is [], time_reading.only start_octets start [] start_below (start_is []))

pub returns-clause-validity : goal.returns-clause-validity
returns-clause-validity c = (period_below, period_is [], validity_reading.only period_octets period [] period_below (period_is []))

pub returns-clause-update : goal.returns-clause-update
returns-clause-update c = (start_below, there start refl (start_is []), update_reading.only start_octets (Some start) [] start_below (there start refl (start_is [])))
