use Rattle.std.proofs.Common.{map}
use Rattle.certpath_why.specs.Signers.{issued_place}
use Rattle.certpath_why.proofs.signers.firsts_by.Goals as goal

pub returns : goal.returns
returns g c =
    let signed = c.requires.issuers in
    record {
      holders = c.in_ok-issuers.issuers;
      signed_are = record {
        octets = signed.octets;
        octets_are = signed.octets_are;
        classes_are = signed.classes_are;
        holders_are = rw (c.deref-2.ensures.value, c.in_ok-members.ensures) at (c.in_ok-issuers.ensures (map issued_place c.args.question.now.found.now.items.now) signed.octets (rw (c.deref.ensures.value, c.in_ok-issued.ensures) at c.in_ok-directory.ensures) signed.classes_are);
      };
      firsts_are = rw c.deref-3.ensures.value at c.in_ok-firsts.ensures;
    }
