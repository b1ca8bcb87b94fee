use Rattle.certpath_why.proofs.Signed.{signed_number, signed_row, signed_holder, signed_positions}
use Rattle.certpath_why.proofs.signers.signers_at.Goals as goal

pub number-number-requires : goal.number-number-requires
number-number-requires g c =
    let q = c.args.question.now in
    let side = c.args.side.now in
    signed_number (g.V.Vouch.vouches_for q.vouch.now).Vouches q.found.now.items.now side.others.now q.signers.now.classes side.holders.now c.requires.side.signed c.args.place c.requires.place

pub positions-requires-clause-number : goal.positions-requires-clause-number
positions-requires-clause-number g c =
    let q = c.args.question.now in
    let side = c.args.side.now in
    rw c.number-number.ensures (signed_row (g.V.Vouch.vouches_for q.vouch.now).Vouches q.found.now.items.now side.others.now q.signers.now.classes side.holders.now c.requires.side.signed c.args.place c.requires.place)

pub positions-requires-clause-within : goal.positions-requires-clause-within
positions-requires-clause-within g c =
    let q = c.args.question.now in
    let side = c.args.side.now in
    rw c.number-number.ensures (signed_holder (g.V.Vouch.vouches_for q.vouch.now).Vouches q.found.now.items.now side.others.now q.signers.now.classes side.holders.now c.requires.side.signed c.args.place c.requires.place)

pub returns : goal.returns
returns g c = λ z at named.
    let q = c.args.question.now in
    let side = c.args.side.now in
    signed_positions (g.V.Vouch.vouches_for q.vouch.now).Vouches q.found.now.items.now side.others.now q.signers.now.classes side.holders.now c.requires.side.signed c.args.place z side.name.now c.in_ok-found.found.items at named (rw c.number-number.ensures at c.in_ok-found.ensures)
