use Rattle.std.proofs.Common.{lit≤}
use Rattle.jiff_core.proofs.DateTimeLemmas.{civil_nanos-parts}
use Rattle.x509_links.specs.Examples.{first_of_2025}
use Rattle.x509_links.proofs.ExampleItems.{day_in_range}
use Rattle.x509_links.proofs.laws.example_of_one_time.Goals as goal

pub returns : goal.returns
returns c = (day_in_range 2025 (lit≤ tt) (lit≤ tt), civil_nanos-parts first_of_2025)
