use Rattle.cert_purpose.proofs.Alike.{restricted_paths}
use Rattle.cert_purpose.proofs.laws_by.restricted_paths_by.Goals as goal

pub returns : goal.returns
returns g c = λ moment demand items lists.
    let P = g.P.Permit.permits c.args._permit.now in
    restricted_paths moment demand (g.V.Vouch.vouches_for c.args._vouch.now) P (g.P.Permit.processes c.args._permit.now) (λ x c. P x.octets) items (record { certificates = λ x c at is. (λ h. h, λ h. h); lists = lists })
