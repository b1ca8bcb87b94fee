use Rattle.std.proofs.Common.{◌≡◌, [], arith, subst}
use Rattle.std.specs.List.{Contains}
use Rattle.cert_reasons.proofs.Listing.{revokes_at}
use Rattle.cert_reasons.proofs.linking.Linking.is_unlisted.Goals as goal

pub returns-clause-unrevoked : goal.returns-clause-unrevoked
returns-clause-unrevoked g c = λ t key p r.
    let s = c.args.self.now in
    let V = g.V.Vouch.vouches_for c.args._vouch.now in
    let h = (revokes_at V s.policy.moment s.policy.demand_lists s.certificate.now.issuer.now key s.items.now s.certificate.now.fields.serial.now p).1 r in
    let there = (c.requires.revoking.exact p).1 h.0 in
    let empty : s.listed.revoking.items ≡ [] = rw c.deref.ensures.value at (c.has_none.ensures.0 t) in
    let none = subst (λ l. Contains l p) empty there in
    absurd (omega (arith, none.1))
