use Rattle.cert_reasons.proofs.linking.Linking.by.Goals as goal

pub returns-clause-lists : goal.returns-clause-lists
returns-clause-lists c =
    let found = c.in_ok-revoking.ensures c.args.policy.now.moment c.args.certificate.now.issuer.now c.requires in
    record { in_force = rw c.places.ensures c.requires.places; revoking = found }
