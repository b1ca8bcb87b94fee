use Rattle.std.proofs.Common.{refl}
use Rattle.cert_serving.specs.Examples.{star_value}
use Rattle.cert_serving.proofs.Worked.{star_serves, star_never_none, own_serves, written_never, sixteen_never, address_no_name, none_serves, two_serve}
use Rattle.cert_serving.proofs.laws.examples_of_hosts.Goals as goal

pub returns : goal.returns
returns c = record {
  star_octets = refl;
  address_octets = refl;
  star = star_serves;
  never_none = star_never_none;
  own = own_serves;
  written = written_never;
  within = sixteen_never;
  address_of_name = address_no_name;
  none = none_serves;
  two = λ host. two_serve host star_value;
}
