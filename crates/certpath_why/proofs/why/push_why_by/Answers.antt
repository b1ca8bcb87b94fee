use Rattle.std.proofs.Common.{refl}
use Rattle.certpath_why.proofs.Joined.{then_appended}
use Rattle.certpath_why.proofs.why.push_why_by.Goals as goal

pub tell_reached-requires-clause-signed : goal.tell_reached-requires-clause-signed
tell_reached-requires-clause-signed g c = record {
  issuers = rw c.in_ok-found.ensures.items c.in_ok-signers.ensures.issuers;
  roots = rw (c.in_ok-found.ensures.items, c.in_ok-found.ensures.anchors) c.in_ok-signers.ensures.roots;
  issuer_firsts = rw c.in_ok-found.ensures.items c.in_ok-signers.ensures.issuer_firsts;
  root_firsts = rw (c.in_ok-found.ensures.items, c.in_ok-found.ensures.anchors) c.in_ok-signers.ensures.root_firsts;
}

pub tell_reached-requires-clause-listed : goal.tell_reached-requires-clause-listed
tell_reached-requires-clause-listed g c = c.in_ok-lists.ensures

pub tell_reached-requires-clause-named : goal.tell_reached-requires-clause-named
tell_reached-requires-clause-named g c = c.in_ok-named.ensures

pub tell_reached-requires-clause-further : goal.tell_reached-requires-clause-further
tell_reached-requires-clause-further g c = rw c.deref-4.ensures.value c.in_ok-further.ensures

pub tell_reached-requires-clause-rows : goal.tell_reached-requires-clause-rows
tell_reached-requires-clause-rows g c = c.in_ok-revoking.ensures.rows

pub tell_reached-requires-clause-reached : goal.tell_reached-requires-clause-reached
tell_reached-requires-clause-reached g c = rw c.deref-4.ensures.value (rw c.deref-2.ensures.value at c.in_ok-revoking.ensures.reached)

pub tell_reached-requires-clause-less : goal.tell_reached-requires-clause-less
tell_reached-requires-clause-less g c = c.requires

pub tell_lists-requires : goal.tell_lists-requires
tell_lists-requires g c = record {
  issuers = rw c.in_ok-found.ensures.items c.in_ok-signers.ensures.issuers;
  roots = rw (c.in_ok-found.ensures.items, c.in_ok-found.ensures.anchors) c.in_ok-signers.ensures.roots;
  issuer_firsts = rw c.in_ok-found.ensures.items c.in_ok-signers.ensures.issuer_firsts;
  root_firsts = rw (c.in_ok-found.ensures.items, c.in_ok-found.ensures.anchors) c.in_ok-signers.ensures.root_firsts;
}

pub returns : goal.returns
returns g c =
    let a = c.in_ok-tell_reached.ensures in
    let b = c.in_ok-tell_lists.ensures in
    (_, then_appended _ a.0 b.0 _ _ b.1 a.1, record { reached = a.0; reached_is = rw (c.in_ok-found.ensures.items, c.in_ok-found.ensures.anchors) at a.2; lists = b.0; lists_are = rw (c.in_ok-found.ensures.items, c.in_ok-found.ensures.anchors) at b.2; text_is = refl })
