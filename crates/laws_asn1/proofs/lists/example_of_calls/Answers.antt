use Rattle.std.proofs.Common.{[], lit<, refl}
use Rattle.laws_asn1.specs.Lists.{true_octets}
use Rattle.laws_asn1.proofs.OfLists.{false_read, true_read}
use Rattle.laws_asn1.proofs.lists.example_of_calls.Goals as goal

pub returns-clause-given : goal.returns-clause-given
returns-clause-given c = ([], (true_octets, (false_read true_octets, lit< tt), ([], (true_read [], lit< tt), refl)), (refl, refl))

pub returns-clause-ends : goal.returns-clause-ends
returns-clause-ends c = (refl, refl)

pub returns-clause-values : goal.returns-clause-values
returns-clause-values c = (
  (true_octets, false_read true_octets, lit< tt, ([], true_read [], lit< tt, refl)),
  (true_octets, false_read true_octets, lit< tt, ([], true_read [], lit< tt, refl)),
)
