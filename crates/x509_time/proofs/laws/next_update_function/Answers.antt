use Rattle.x509_time.proofs.UpdateLaws.{update_reading}
use Rattle.x509_time.proofs.laws.next_update_function.Goals as goal

pub returns : goal.returns
returns c = record {
  found = λ i v rest below given. (update_reading.found i v rest below given).0;
  only = λ i v rest below is. update_reading.only i v rest below is;
}
