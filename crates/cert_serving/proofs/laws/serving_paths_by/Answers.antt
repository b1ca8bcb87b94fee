use Rattle.cert_serving.specs.Refusing.{are_permitted, are_processed}
use Rattle.cert_serving.proofs.Paths.{serving_paths}
use Rattle.cert_serving.proofs.laws.serving_paths_by.Goals as goal

pub returns : goal.returns
returns g c = λ moment demand d octets items anchors target ps a.
    serving_paths moment demand (g.V.Vouch.vouches_for c.args._vouch.now) (are_permitted c.args._permits.now) (are_processed c.args._permits.now) d octets items anchors target ps a
