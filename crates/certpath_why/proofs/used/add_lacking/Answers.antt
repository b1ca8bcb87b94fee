use Rattle.std.proofs.Common.{sym, subst, List, ℕ, Some}
use Rattle.cert_judge.proofs.Mapped.{not_both}
use Rattle.cert_reasons.specs.declared.links.Unlinked.TheVariants.{NoUsedList}
use Rattle.certpath_why.specs.Question.{items_in, rules_in}
use Rattle.certpath_why.specs.Sides.{others_of}
use Rattle.certpath_why.specs.Used.{AreUsed, LacksListAt}
use Rattle.certpath_why.specs.Why.{TellsGroup}
use Rattle.certpath_why.proofs.Alike.{one_subject}
use Rattle.certpath_why.proofs.Keeping.{kept_more}
use Rattle.certpath_why.proofs.Tailing.{cut_tails, no_group, no_tail}
use Rattle.certpath_why.proofs.Using.{AreUsedUnder, none_lacking_there}
use Rattle.certpath_why.proofs.used.add_lacking.Goals as goal

pub returns-then-not-demands_lists-clause-tails : goal.returns-then-not-demands_lists-clause-tails
returns-then-not-demands_lists-clause-tails g c =
    let q = c.args.question.now in
    let side = c.args.side.now in
    let L = LacksListAt (rules_in g.V.Vouch q) (items_in q) (others_of side) side.name.now in
    no_tail (λ front. TellsGroup front (Some NoUsedList) L) c.args.tails.now.items (λ front. no_group front (Some NoUsedList) L
    (none_lacking_there (g.V.Vouch.vouches_for q.vouch.now) q.policy.now.moment q.policy.now.demand_lists (items_in q) (others_of side) side.name.now (λ t. let e = c.demands_lists.ensures in not_both _ (rw e t) c.if-not-demands_lists.true)))

pub returns-in-Some-clause-tails : goal.returns-in-Some-clause-tails
returns-in-Some-clause-tails g c =
    let q = c.args.question.now in
    let side = c.args.side.now in
    let used = c.requires.kept side.first c.in-Some.used.now (sym c.in-Some.ensures.value) side.name.now c.requires.side.first in
    cut_tails (Some NoUsedList) (LacksListAt (rules_in g.V.Vouch q) (items_in q) (others_of side) side.name.now) c.in-Some.used.now.lacking _ _ used.lacking c.in_ok-add_cut.ensures

pub new-requires-clause-demanded : goal.new-requires-clause-demanded
new-requires-clause-demanded g c = let e = c.demands_lists.ensures in rw e at c.if-not-demands_lists.false

pub returns-clause-kept : goal.returns-clause-kept
returns-clause-kept g c =
    let q = c.args.question.now in
    let side = c.args.side.now in
    let r = rules_in g.V.Vouch q in
    kept_more (AreUsedUnder r (items_in q) (others_of side)) c.args.kept.now c.insert.new.self side.first c.in_ok-used.used c.requires.kept
    (λ name s. subst (λ (n : List ℕ). AreUsed r (items_in q) (others_of side) n c.in_ok-used.used) (one_subject (others_of side) side.first side.name.now name c.requires.side.first s) c.in_ok-used.ensures) (λ k. c.in_ok-insert.ensures.updates.0 k)

pub returns-clause-tails : goal.returns-clause-tails
returns-clause-tails g c =
    let q = c.args.question.now in
    let side = c.args.side.now in
    cut_tails (Some NoUsedList) (LacksListAt (rules_in g.V.Vouch q) (items_in q) (others_of side) side.name.now) c.in_ok-used.used.lacking _ _ c.in_ok-used.ensures.lacking c.in_ok-add_cut-2.ensures
