use Rattle.std.proofs.Common.{sym, subst, List, ℕ}
use Rattle.cert_judge.proofs.Mapped.{not_both}
use Rattle.certpath_why.specs.Question.{items_in, rules_in}
use Rattle.certpath_why.specs.Sides.{others_of}
use Rattle.certpath_why.specs.Used.{AreUsed, HasListAt}
use Rattle.certpath_why.proofs.Alike.{one_subject}
use Rattle.certpath_why.proofs.Items.{positions_as}
use Rattle.certpath_why.proofs.Keeping.{kept_more}
use Rattle.certpath_why.proofs.Spacing.{ranges_spaced}
use Rattle.certpath_why.proofs.Using.{all_listed, AreUsedUnder, listed_iff}
use Rattle.certpath_why.proofs.used.listed_among.Goals as goal

pub returns-then-not-demands_lists-clause-listed : goal.returns-then-not-demands_lists-clause-listed
returns-then-not-demands_lists-clause-listed g c =
    let q = c.args.question.now in
    let H = HasListAt (rules_in g.V.Vouch q) (items_in q) (others_of c.args.side.now) c.args.side.now.name.now in
    positions_as c.in_ok-all.all.items (all_listed q.policy.now.demand_lists c.args.places.now H (λ t. let e = c.demands_lists.ensures in not_both _ (rw e t) c.if-not-demands_lists.true)) c.in_ok-all.ensures

pub within-requires-clause-ranges : goal.within-requires-clause-ranges
within-requires-clause-ranges g c =
    let q = c.args.question.now in
    let side = c.args.side.now in
    let used = c.requires.kept side.first c.in-Some.used.now (sym c.in-Some.ensures.value) side.name.now c.requires.side.first in
    rw c.deref.ensures.value (ranges_spaced (HasListAt (rules_in g.V.Vouch q) (items_in q) (others_of side) side.name.now) c.in-Some.used.now.having.items used.having)

pub returns-in-Some-clause-listed : goal.returns-in-Some-clause-listed
returns-in-Some-clause-listed g c =
    let q = c.args.question.now in
    let side = c.args.side.now in
    let H = HasListAt (rules_in g.V.Vouch q) (items_in q) (others_of side) side.name.now in
    let used = c.requires.kept side.first c.in-Some.used.now (sym c.in-Some.ensures.value) side.name.now c.requires.side.first in
    let demanded = let e = c.demands_lists.ensures in rw e at c.if-not-demands_lists.false in
    positions_as c.in_ok-known.known.items (listed_iff q.policy.now.demand_lists c.args.places.now c.in-Some.used.now.having.items H demanded used.having) (rw c.deref.ensures.value at c.in_ok-known.ensures)

pub new-requires-clause-demanded : goal.new-requires-clause-demanded
new-requires-clause-demanded g c = let e = c.demands_lists.ensures in rw e at c.if-not-demands_lists.false

pub within-requires-2-clause-ranges : goal.within-requires-2-clause-ranges
within-requires-2-clause-ranges g c =
    let q = c.args.question.now in
    let side = c.args.side.now in
    rw c.deref-2.ensures.value (ranges_spaced (HasListAt (rules_in g.V.Vouch q) (items_in q) (others_of side) side.name.now) c.in_ok-used.used.having.items c.in_ok-used.ensures.having)

pub returns-clause-kept : goal.returns-clause-kept
returns-clause-kept g c =
    let q = c.args.question.now in
    let side = c.args.side.now in
    let r = rules_in g.V.Vouch q in
    kept_more (AreUsedUnder r (items_in q) (others_of side)) c.args.kept.now c.insert.new.self side.first c.in_ok-used.used c.requires.kept
    (λ name s. subst (λ (n : List ℕ). AreUsed r (items_in q) (others_of side) n c.in_ok-used.used) (one_subject (others_of side) side.first side.name.now name c.requires.side.first s) c.in_ok-used.ensures) (λ k. c.in_ok-insert.ensures.updates.0 k)

pub returns-clause-listed : goal.returns-clause-listed
returns-clause-listed g c =
    let q = c.args.question.now in
    let side = c.args.side.now in
    let H = HasListAt (rules_in g.V.Vouch q) (items_in q) (others_of side) side.name.now in
    let demanded = let e = c.demands_lists.ensures in rw e at c.if-not-demands_lists.false in
    positions_as c.in_ok-listed.listed.items (listed_iff q.policy.now.demand_lists c.args.places.now c.in_ok-used.used.having.items H demanded c.in_ok-used.ensures.having) (rw c.deref-2.ensures.value at c.in_ok-listed.ensures)
