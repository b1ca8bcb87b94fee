use Rattle.certpath_why.proofs.Holding.{name_added, rows_many}
use Rattle.certpath_why.proofs.holders.add_name.Goals as goal

pub add_keys-requires : goal.add_keys-requires
add_keys-requires g c =
    rw (c.deref-4.ensures.value, c.deref-5.ensures.value)
    (rows_many (g.V.Vouch.vouches_for c.args.vouch.now).Vouches c.args.chosen.now c.args.texts.now c.in_ok-asked.asked.items c.in_ok-found.found.items c.in_ok-keys.keys.items (rw c.deref-2.ensures.value at c.in_ok-asked.ensures) (rw c.deref-3.ensures.value at c.in_ok-found.ensures))

pub returns : goal.returns
returns g c =
    name_added (g.V.Vouch.vouches_for c.args.vouch.now).Vouches c.args.members.now c.args.name.now.text.now c.args.name.now.places.items c.args.texts.now c.in_ok-asked.asked.items c.args.chosen.now c.in_ok-keys.keys.items c.in_ok-found.found.items c.args.holders.now c.add_keys.new.holders
    (rw c.deref-2.ensures.value at c.in_ok-asked.ensures) (rw c.deref.ensures.value at c.in_ok-keys.ensures) (rw c.deref-3.ensures.value at c.in_ok-found.ensures) (rw (c.deref-4.ensures.value, c.deref-5.ensures.value) at c.in_ok-add_keys.ensures)
