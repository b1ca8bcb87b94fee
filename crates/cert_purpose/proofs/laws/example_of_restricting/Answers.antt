use Rattle.cert_purpose.proofs.Worked.{path_stays, path_goes}
use Rattle.cert_purpose.proofs.laws.example_of_restricting.Goals as goal

pub returns : goal.returns
returns c = record { stays = path_stays; goes = path_goes }
