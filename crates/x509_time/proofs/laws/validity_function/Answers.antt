use Rattle.x509_time.proofs.TimeLaws.{validity_reading}
use Rattle.x509_time.proofs.laws.validity_function.Goals as goal

pub returns : goal.returns
returns c = record {
  found = λ i v rest below given. (validity_reading.found i v rest below given).0;
  only = λ i v rest below is. validity_reading.only i v rest below is;
}
