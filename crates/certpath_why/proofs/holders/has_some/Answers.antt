use Rattle.cert_reasons.proofs.Certain.{not_iff}
use Rattle.certpath_why.proofs.Keyed.{none_there, some_there}
use Rattle.certpath_why.proofs.holders.has_some.Goals as goal

pub returns : goal.returns
returns c =
    let n = not_iff c.has_none.result c.has_none.ensures in
    (λ t. some_there c.args.places.now (n.0 t), λ h. n.1 (λ e. none_there c.args.places.now h.0 e h.1))
