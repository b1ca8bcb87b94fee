use Rattle.std.proofs.Common.{sym, subst, List, ℕ}
use Rattle.cert_graph.proofs.PlacesOfNodes.{element_at}
use Rattle.certpath_why.specs.Kinds.{lines_of}
use Rattle.certpath_why.specs.Revoked.{AreRowLines}
use Rattle.certpath_why.specs.Sides.{others_of}
use Rattle.certpath_why.proofs.Keeping.{kept_more}
use Rattle.certpath_why.proofs.Revokers.{AreRowTails}
use Rattle.certpath_why.proofs.Tailing.{copied_tails}
use Rattle.certpath_why.proofs.revoked.add_revoked.Goals as goal

pub returns-in-Some-clause-tails : goal.returns-in-Some-clause-tails
returns-in-Some-clause-tails g c =
    let q = c.args.question.now in
    let V = (g.V.Vouch.vouches_for q.vouch.now).Vouches in
    let xs = q.found.now.items.now in
    let others = others_of c.args.side.now in
    let tails = c.in-Some.lines.now in
    let d = (element_at q.revoking.now.rows.items c.args.revokers.number c.requires.number).0 in
    copied_tails (AreRowLines V xs others c.args.revokers.lists.now) c.args.tails.now.items tails.items _ (rw c.deref.ensures.value at c.in_ok-add_copies.ensures)
    (λ front. subst (λ (l : List ℕ). AreRowLines V xs others l front (lines_of front tails.items)) (sym (c.requires.row d)) (c.requires.kept c.args.revokers.number tails (sym c.in-Some.ensures.value) d front))

pub returns-clause-kept : goal.returns-clause-kept
returns-clause-kept g c =
    let q = c.args.question.now in
    let V = (g.V.Vouch.vouches_for q.vouch.now).Vouches in
    let xs = q.found.now.items.now in
    let others = others_of c.args.side.now in
    let tails = c.in_ok-lines.lines in
    kept_more (AreRowTails V xs others q.revoking.now.rows.items) c.args.kept.now c.insert.new.self c.args.revokers.number tails c.requires.kept
    (λ r front. subst (λ (l : List ℕ). AreRowLines V xs others l front (lines_of front tails.items)) (c.requires.row r) (c.in_ok-lines.ensures front)) (λ k. c.in_ok-insert.ensures.updates.0 k)

pub returns-clause-tails : goal.returns-clause-tails
returns-clause-tails g c =
    let q = c.args.question.now in
    let V = (g.V.Vouch.vouches_for q.vouch.now).Vouches in
    let xs = q.found.now.items.now in
    let others = others_of c.args.side.now in
    copied_tails (AreRowLines V xs others c.args.revokers.lists.now) c.args.tails.now.items c.in_ok-lines.lines.items _ (rw c.deref-2.ensures.value at c.in_ok-add_copies-2.ensures) c.in_ok-lines.ensures
