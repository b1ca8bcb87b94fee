use Rattle.std.proofs.Common.{refl}
use Rattle.certpath_why.proofs.WorkedDemands.{purpose_told, two_told, empty_told, host_told, issuer_untold, no_name_told}
use Rattle.certpath_why.proofs.laws.examples_of_demands.Goals as goal

pub returns : goal.returns
returns c = record {
  octets = refl;
  purpose = purpose_told;
  two = two_told;
  empty = empty_told;
  host = host_told;
  issuer = issuer_untold;
  no_name = no_name_told;
  many = refl;
  cut = refl;
  comma = refl;
}
