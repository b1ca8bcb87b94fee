use Rattle.certpath_why.proofs.Naming.{issuers_made}
use Rattle.certpath_why.proofs.named.Issuers.new.Goals as goal

pub ranges_of-requires-3 : goal.ranges_of-requires-3
ranges_of-requires-3 c = rw c.deref-3.ensures.value c.in_ok-bare.ensures.ascends

pub returns : goal.returns
returns c =
    issuers_made c.args.items.now c.args.places.now c.in_ok-with_id.with_id.items c.in_ok-shown.shown.items _ c.requires (rw c.new-own.ensures.items at c.in_ok-extend_from_slice.ensures.items) c.in_ok-all.ensures
    c.in_ok-with_id.ensures (rw c.deref.ensures.value at c.in_ok-keyed.ensures) c.in_ok-shown.ensures (rw c.deref-2.ensures.value at c.in_ok-by_id.ensures) c.in_ok-bare.ensures (rw c.deref-3.ensures.value at c.in_ok-bare_ranges.ensures)
