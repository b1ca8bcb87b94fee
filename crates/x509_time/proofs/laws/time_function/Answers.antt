use Rattle.x509_time.proofs.TimeLaws.{time_reading}
use Rattle.x509_time.proofs.laws.time_function.Goals as goal

pub returns : goal.returns
returns c = record {
  found = λ i v rest below given. (time_reading.found i v rest below given).0;
  only = λ i v rest below is. time_reading.only i v rest below is;
}
