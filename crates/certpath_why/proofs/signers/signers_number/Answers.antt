use Rattle.certpath_why.proofs.Signed.{signed_first, signed_number}
use Rattle.certpath_why.proofs.signers.signers_number.Goals as goal

pub number_by-requires-clause-place : goal.number_by-requires-clause-place
number_by-requires-clause-place g c =
    let q = c.args.question.now in
    let side = c.args.side.now in
    let firsts = c.requires.side.firsts in
    signed_number (g.V.Vouch.vouches_for q.vouch.now).Vouches q.found.now.items.now side.others.now q.signers.now.classes firsts.holders firsts.signed_are c.args.place c.requires.place

pub number_by-requires-clause-number : goal.number_by-requires-clause-number
number_by-requires-clause-number g c =
    let q = c.args.question.now in
    let side = c.args.side.now in
    signed_first (g.V.Vouch.vouches_for q.vouch.now).Vouches q.found.now.items.now side.others.now q.signers.now.classes side.firsts.now c.requires.side.firsts c.args.place c.requires.place
