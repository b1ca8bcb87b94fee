use Rattle.certpath_why.proofs.Fating.{ranges_as}
use Rattle.certpath_why.proofs.Issues.{linked_anchor_iff}
use Rattle.certpath_why.proofs.certificates.root_groups_of.Goals as goal

pub new-requires-clause-used : goal.new-requires-clause-used
new-requires-clause-used g c = rw c.requires.others c.requires.used

pub returns-clause-used : goal.returns-clause-used
returns-clause-used g c = rw c.requires.others at c.in_ok-issued.ensures.used

pub returns-clause-groups : goal.returns-clause-groups
returns-clause-groups g c =
    let q = c.args.question.now in
    let x = c.args.certificate.now in
    let V = g.V.Vouch.vouches_for q.vouch.now in
    let issued = rw c.requires.others at c.in_ok-issued.ensures.issued in
    let all = c.in_ok-issued.issued.under.all.items in
    let exact = issued.under.places.exact in
    record {
      linked = (
        all,
        ranges_as all
            (λ w. let iff = linked_anchor_iff V q.policy.now.moment q.policy.now.demand_lists q.found.now.items.now q.found.now.anchors.now x w in (λ c. iff.0 ((exact w).0 c), λ l. (exact w).1 (iff.1 l)))
            issued.under.all,
        rw c.deref.ensures.value at c.in_ok-linked.ensures,
      );
      unvouched = let u = issued.unvouched in (u.0, u.1, c.in_ok-unvouched.ensures u.0 u.2);
    }

pub new-requires-clause-revoking : goal.new-requires-clause-revoking
new-requires-clause-revoking g c = c.requires.revokers.are
