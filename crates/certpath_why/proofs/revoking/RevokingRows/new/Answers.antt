use Rattle.std.specs.List.{Contains}
use Rattle.std.proofs.Common.{ℕ, sym, subst, get_or, take, length, arith, map, inl, inr}
use Rattle.std.proofs.lemmas.List.{take_more, take_all}
use Rattle.std.proofs.lemmas.List.Elements.{Contains-get_or, Contains-push_cases}
use Rattle.cert_judge.specs.Items.{item_of}
use Rattle.certpath_why.specs.RevokingRows.{HasNumber}
use Rattle.certpath_why.proofs.Rowed.{map_none, numbered_none}
use Rattle.certpath_why.proofs.Spreading.{further_certificate}
use Rattle.certpath_why.proofs.revoking.RevokingRows.new.Goals as goal

pub add_at-requires-clause-rows : goal.add_at-requires-clause-rows
add_at-requires-clause-rows c = c.in_ok-serials.ensures _ _

pub add_at-requires-clause-numbered : goal.add_at-requires-clause-numbered
add_at-requires-clause-numbered c = numbered_none c.args.found.now.items.now c.args.policy.now.moment c.in_ok-serials.serials.rows.items c.new-numbers.result (map_none c.new-numbers.result c.new-numbers.ensures.empty)

pub loop-place-init : goal.loop-place-init
loop-place-init c = (c.in_ok-add_at.ensures.rows, c.in_ok-add_at.ensures.numbered, c.in_ok-add_at.ensures.own, λ p at. absurd (let lt = at.1 in omega arith))

pub add_at-requires-in-loop-place-clause-rows : goal.add_at-requires-in-loop-place-clause-rows
add_at-requires-in-loop-place-clause-rows c = c.loop-place.invariant.0

pub add_at-requires-in-loop-place-clause-numbered : goal.add_at-requires-in-loop-place-clause-numbered
add_at-requires-in-loop-place-clause-numbered c = c.loop-place.invariant.1

pub loop-place-preserved : goal.loop-place-preserved
loop-place-preserved c =
    let further = c.args.further.now in
    let k = c.loop-place.place-index in
    let v = get_or further k 0 in
    let kept = c.in_ok-add_at-2.ensures.kept in
    let reached = further_certificate (map item_of c.args.found.now.items.now) c.args.target v ((c.requires.further.exact v).0 (Contains-get_or further k 0 c.loop-place-test.true)) in (
      c.in_ok-add_at-2.ensures.rows,
      c.in_ok-add_at-2.ensures.numbered,
      λ at. kept c.args.target (c.loop-place.invariant.2 at),
      λ p at. elim (Contains-push_cases (take k further) v p (subst (λ l. Contains l p) (take_more further k 0 c.loop-place-test.true) at)) [
        | inl t ↦ kept p (c.loop-place.invariant.3 p t)
        | inr e ↦ subst (HasNumber c.add_at-in-loop-place.new.numbers) e (c.in_ok-add_at-2.ensures.own reached)
      ],
    )

pub returns-clause-rows : goal.returns-clause-rows
returns-clause-rows c = record {
  firsts = rw c.deref.ensures.value at c.in_ok-firsts.ensures;
  numbered = c.loop-place.invariant.1;
}

pub returns-clause-reached : goal.returns-clause-reached
returns-clause-reached c = record {
  target = c.loop-place.invariant.2;
  further = subst (λ l. (p : ℕ) → Contains l p → HasNumber c.loop-place.numbers p) (take_all c.loop-place.place-index c.args.further.now c.loop-place-test.false) c.loop-place.invariant.3;
}
