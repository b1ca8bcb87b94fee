use Rattle.std.proofs.Common.{◌≡◌, ℕ, ◌+◌, ◌∙◌, [], sym, subst, take, get_or, List, Vec, Global, arith, inl}
use Rattle.std.proofs.lemmas.List.{take_all, length-map}
use Rattle.smallvec.specs.SmallVec.{SmallVec}
use Rattle.cert_graph.specs.declared.reach.Reach.{Reach}
use Rattle.cert_graph.specs.declared.reach.Reach.TheVariants.{No}
use Rattle.cert_graph.specs.declared.changes.Change.{Change}
use Rattle.cert_search.specs.Rising.{AreRaised, HaveRisen, MemberTakes}
use Rattle.cert_search.proofs.Placing.{lists_of, read_list}
use Rattle.cert_search.proofs.Handing.{members_more, members_still, risen_twice}
use Rattle.cert_search.proofs.rising.raise_bests.Goals as goal
use Rattle.cert_search.proofs.rising.raise_bests.Goals.{then-change-places+in_ok-raise_to, else-change-places}

pub loop-change-preserved : goal.loop-change-preserved
loop-change-preserved c =
    let d : Change = record { position = 0; reach = No } in
    let first = c.args.bests.now in
    let old = c.loop-change.bests in
    let changes = c.args.changes.now in
    let i = c.loop-change.change-index in
    let x = get_or changes i d in
    let places = lists_of c.args.places.now in
    let before = c.loop-change.groups.items in
    elim c.if-change-places.branch [
      | then-change-places+in_ok-raise_to w ↦
          let list : w.deref.result.now ≡ get_or places x.position [] = w.deref.ensures ∙ sym (read_list c.args.places.now x.position w.index-places-change.result w.if-change-places.true w.index-places-change.is) in
          let new = w.raise_to.new.row in
          let raised = w.in_ok-raise_to.ensures.raised in
          record {
            raised = subst (λ (r : List Reach). AreRaised first r (MemberTakes places (take (i + 1) changes))) (sym w.bests-is)
                (members_more places changes i d first old new w.deref.result.now c.loop-change-test.true list c.loop-change.invariant.raised raised);
            risen = subst (λ (v : Vec ℕ Global). HaveRisen first c.if-change-places.bests [] v.items) (sym w.groups-is)
                (subst (λ (r : List Reach). HaveRisen first r [] w.raise_to.new.risen.items) (sym w.bests-is)
                (risen_twice first old new [] before w.raise_to.new.risen.items (λ v n t. (c.loop-change.invariant.raised v n).1 (inl t)) (λ v n t. (raised v n).1 (inl t)) c.loop-change.invariant.risen w.in_ok-raise_to.ensures.risen));
          }
      | else-change-places w ↦
          let size = length-map c.args.places.now (λ (l : SmallVec ℕ). l.items) in
          record {
            raised = subst (λ (r : List Reach). AreRaised first r (MemberTakes places (take (i + 1) changes))) (sym w.bests-is)
                (members_still places changes i d first old c.loop-change-test.true (omega (arith, size, w.if-change-places.false)) c.loop-change.invariant.raised);
            risen = subst (λ (v : Vec ℕ Global). HaveRisen first c.if-change-places.bests [] v.items) (sym w.groups-is)
                (subst (λ (r : List Reach). HaveRisen first r [] before) (sym w.bests-is) c.loop-change.invariant.risen);
          }
    ]

pub returns-clause-raised : goal.returns-clause-raised
returns-clause-raised c =
    subst (λ (xs : List Change). AreRaised c.args.bests.now c.loop-change.bests (MemberTakes (lists_of c.args.places.now) xs)) (take_all c.loop-change.change-index c.args.changes.now c.loop-change-test.false)
    c.loop-change.invariant.raised
