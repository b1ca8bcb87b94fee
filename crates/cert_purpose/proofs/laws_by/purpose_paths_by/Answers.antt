use Rattle.cert_purpose.specs.Purposes.{Allows}
use Rattle.cert_purpose.proofs.Alike.{restricted_paths}
use Rattle.cert_purpose.proofs.laws_by.purpose_paths_by.Goals as goal

pub returns : goal.returns
returns g c = λ moment demand items purpose those.
    restricted_paths moment demand (g.V.Vouch.vouches_for c.args._vouch.now) (g.P.Permit.permits c.args._permit.now) (g.P.Permit.processes c.args._permit.now) (λ x c. Allows purpose c.extensions) items those
