use Rattle.std.proofs.Common.{[], lit<, refl}
use Rattle.laws_asn1.specs.Lists.{true_octets}
use Rattle.laws_asn1.proofs.OfLists.{false_read_by_ber, true_read_by_ber}
use Rattle.laws_asn1.proofs.lists.example_of_ber_calls.Goals as goal

pub returns-clause-given : goal.returns-clause-given
returns-clause-given c = ([], (true_octets, (false_read_by_ber true_octets, lit< tt), ([], (true_read_by_ber [], lit< tt), refl)), (refl, refl))

pub returns-clause-ends : goal.returns-clause-ends
returns-clause-ends c = (refl, refl)

pub returns-clause-values : goal.returns-clause-values
returns-clause-values c = (
  (true_octets, false_read_by_ber true_octets, lit< tt, ([], true_read_by_ber [], lit< tt, refl)),
  (true_octets, false_read_by_ber true_octets, lit< tt, ([], true_read_by_ber [], lit< tt, refl)),
)
