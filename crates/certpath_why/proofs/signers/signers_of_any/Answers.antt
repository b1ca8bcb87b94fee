use Rattle.certpath_why.proofs.Items.{positions_as}
use Rattle.certpath_why.proofs.Signed.{any_holder, any_row, any_signed}
use Rattle.certpath_why.proofs.signers.signers_of_any.Goals as goal

pub positions_of_any-requires-clause-numbers : goal.positions_of_any-requires-clause-numbers
positions_of_any-requires-clause-numbers g c =
    let q = c.args.question.now in
    let side = c.args.side.now in
    rw c.deref-2.ensures.value (any_row (g.V.Vouch.vouches_for q.vouch.now).Vouches q.found.now.items.now side.others.now q.signers.now.classes side.holders.now c.requires.side.signed side.name.now c.args.places.now c.in_ok-numbers.numbers.items c.requires.places (rw c.deref.ensures.value at c.in_ok-numbers.ensures.only))

pub positions_of_any-requires-clause-within : goal.positions_of_any-requires-clause-within
positions_of_any-requires-clause-within g c =
    let q = c.args.question.now in
    let side = c.args.side.now in
    rw c.deref-2.ensures.value (any_holder (g.V.Vouch.vouches_for q.vouch.now).Vouches q.found.now.items.now side.others.now q.signers.now.classes side.holders.now c.requires.side.signed side.name.now c.args.places.now c.in_ok-numbers.numbers.items c.requires.places (rw c.deref.ensures.value at c.in_ok-numbers.ensures.only))

pub returns : goal.returns
returns g c =
    let q = c.args.question.now in
    let side = c.args.side.now in
    positions_as c.in_ok-found.found.items
    (any_signed (g.V.Vouch.vouches_for q.vouch.now).Vouches q.found.now.items.now side.others.now q.signers.now.classes side.holders.now c.requires.side.signed side.name.now c.args.places.now c.in_ok-numbers.numbers.items c.requires.places
    (rw c.deref.ensures.value at c.in_ok-numbers.ensures.only) (rw c.deref.ensures.value at c.in_ok-numbers.ensures.all)) (rw c.deref-2.ensures.value at c.in_ok-found.ensures)
