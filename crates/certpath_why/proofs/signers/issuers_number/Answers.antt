use Rattle.certpath_why.proofs.Signed.{signed_first, signed_number}
use Rattle.certpath_why.proofs.signers.issuers_number.Goals as goal

pub number_by-requires-clause-place : goal.number_by-requires-clause-place
number_by-requires-clause-place g c =
    let q = c.args.question.now in
    let firsts = c.requires.signed.issuer_firsts in
    signed_number (g.V.Vouch.vouches_for q.vouch.now).Vouches q.found.now.items.now q.found.now.items.now q.signers.now.classes firsts.holders firsts.signed_are c.args.place c.requires.place

pub number_by-requires-clause-number : goal.number_by-requires-clause-number
number_by-requires-clause-number g c =
    let q = c.args.question.now in
    rw c.deref.ensures.value (signed_first (g.V.Vouch.vouches_for q.vouch.now).Vouches q.found.now.items.now q.found.now.items.now q.signers.now.classes q.signers.now.issuer_firsts.items c.requires.signed.issuer_firsts c.args.place c.requires.place)

pub returns : goal.returns
returns g c = rw c.deref.ensures.value at c.number_by.ensures
