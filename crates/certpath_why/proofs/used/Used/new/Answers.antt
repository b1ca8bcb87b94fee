use Rattle.std.specs.List.{Contains}
use Rattle.certpath_why.specs.Sides.{others_of}
use Rattle.certpath_why.proofs.Spacing.{ranges_spaced}
use Rattle.certpath_why.proofs.Using.{in_force_lists, issuers_there, used_made}
use Rattle.certpath_why.proofs.used.Used.new.Goals as goal

pub in_force_among-requires : goal.in_force_among-requires
in_force_among-requires g c = c.lists-lists.ensures.ascends

pub signers_of_any-requires-clause-places : goal.signers_of_any-requires-clause-places
signers_of_any-requires-clause-places g c =
    let q = c.args.question.now in
    let name = c.args.side.now.name.now in
    let are = in_force_lists c.moment-moment.result name q.found.now.items.now c.lists-lists.result.now c.in_ok-in_force.in_force.items c.lists-lists.ensures c.in_ok-in_force.ensures in
    rw c.deref.ensures.value (issuers_there q.found.now.items.now c.moment-moment.result name c.in_ok-in_force.in_force.items (λ p at. (are.exact p).0 at))

pub ranges_of-requires : goal.ranges_of-requires
ranges_of-requires g c = rw c.deref-2.ensures.value c.in_ok-signers.ensures.ascends

pub ranges_but-requires-clause-all : goal.ranges_but-requires-clause-all
ranges_but-requires-clause-all g c =
    let named = c.args.side.now.named.now in
    rw c.deref-3.ensures.value (ranges_spaced (Contains named.places.items) named.all.items c.requires.side.named.all)

pub ranges_but-requires-clause-left_out : goal.ranges_but-requires-clause-left_out
ranges_but-requires-clause-left_out g c = rw c.deref-4.ensures.value c.in_ok-signers.ensures.ascends

pub returns : goal.returns
returns g c =
    let q = c.args.question.now in
    let side = c.args.side.now in
    let V = g.V.Vouch.vouches_for q.vouch.now in
    let xs = q.found.now.items.now in
    let name = side.name.now in
    let moment = c.moment-moment.ensures in
    let are = rw moment at (in_force_lists c.moment-moment.result name xs c.lists-lists.result.now c.in_ok-in_force.in_force.items c.lists-lists.ensures c.in_ok-in_force.ensures) in
    used_made V q.policy.now.moment q.policy.now.demand_lists xs (others_of side) name c.in_ok-in_force.in_force.items side.named.now.places.items c.in_ok-signers.signers.items side.named.now.all.items _ c.requires.demanded are c.requires.side.named.places c.requires.side.named.all
    (rw c.deref.ensures.value at c.in_ok-signers.ensures) (rw c.deref-2.ensures.value at c.in_ok-having.ensures) (rw (c.deref-3.ensures.value, c.deref-4.ensures.value) at c.in_ok-lacking.ensures)
