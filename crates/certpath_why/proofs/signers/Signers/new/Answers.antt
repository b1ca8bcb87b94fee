use Rattle.std.proofs.Common.{map}
use Rattle.certpath_why.specs.Signers.{issued_place}
use Rattle.certpath_why.proofs.signers.Signers.new.Goals as goal

pub returns-clause-issuers : goal.returns-clause-issuers
returns-clause-issuers g c = record {
  octets = c.in_ok-octets.octets.items;
  octets_are = c.in_ok-octets.ensures;
  classes_are = rw c.deref.ensures.value at c.in_ok-classes.ensures;
  holders_are = rw (c.deref-3.ensures.value, c.in_ok-members.ensures) at
      (c.in_ok-issuers.ensures (map issued_place c.args.items.now) c.in_ok-octets.octets.items (rw (c.deref-2.ensures.value, c.in_ok-issued.ensures) at c.in_ok-directory.ensures) (rw c.deref.ensures.value at c.in_ok-classes.ensures));
}

pub returns-clause-roots : goal.returns-clause-roots
returns-clause-roots g c = record {
  octets = c.in_ok-octets.octets.items;
  octets_are = c.in_ok-octets.ensures;
  classes_are = rw c.deref.ensures.value at c.in_ok-classes.ensures;
  holders_are = rw (c.deref-4.ensures.value, c.in_ok-members-2.ensures) at
      (c.in_ok-roots.ensures (map issued_place c.args.items.now) c.in_ok-octets.octets.items (rw (c.deref-2.ensures.value, c.in_ok-issued.ensures) at c.in_ok-directory.ensures) (rw c.deref.ensures.value at c.in_ok-classes.ensures));
}

pub returns-clause-issuer_firsts : goal.returns-clause-issuer_firsts
returns-clause-issuer_firsts g c = record {
  holders = c.in_ok-issuers.issuers;
  signed_are = returns-clause-issuers g c;
  firsts_are = rw c.deref-5.ensures.value at c.in_ok-issuer_firsts.ensures;
}

pub returns-clause-root_firsts : goal.returns-clause-root_firsts
returns-clause-root_firsts g c = record {
  holders = c.in_ok-roots.roots;
  signed_are = returns-clause-roots g c;
  firsts_are = rw c.deref-6.ensures.value at c.in_ok-root_firsts.ensures;
}
