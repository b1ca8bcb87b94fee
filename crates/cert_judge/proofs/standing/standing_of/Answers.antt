use Rattle.std.proofs.Common.{◌≡◌, subst, refl, ℕ, List, [], Bor, length, get_or, arith}
use Rattle.std.specs.Prelude.{◌↔◌, ◌⊎◌, IsTrue}
use Rattle.std.specs.BTreeSet as sorted
use Rattle.cert_judge.specs.Serials.{HasEqual}
use Rattle.cert_judge.specs.Standing.{anything, IsUsedAt, IsUsedAgainstAt}
use Rattle.cert_judge.proofs.Sets.{R}
use Rattle.cert_judge.proofs.Before.{before_all}
use Rattle.cert_judge.proofs.StandingFacts.{default_is, standing_used, standing_same}
use Rattle.cert_judge.proofs.SerialFacts.{known_set}
use Rattle.cert_judge.proofs.standing.standing_of.Goals as goal
use Rattle.cert_judge.proofs.standing.standing_of.Goals.{in-Some+in_ok-add_list, in_default}

pub add_list-requires : goal.add_list-requires
add_list-requires c =
    let p = get_or c.args.places.now c.loop-place.place-index 0 in
    known_set c.args.items.now c.args.long.now p c.in-Some.list.now c.deref.result.now c.get.result c.requires c.in-Some.ensures.found.0 c.deref.ensures.value c.get.ensures.value

pub loop-place-preserved : goal.loop-place-preserved
loop-place-preserved c =
    let V = anything in
    let js = c.args.items.now in
    let places = c.args.places.now in
    let key : List ℕ = [] in
    let asked = c.args.asked.now in
    let k = c.loop-place.place-index in
    let p = get_or places k 0 in
    let at = default_is places k 0 c.loop-place-test.true in
    elim c.match-used_list.branch [
      | in-Some+in_ok-add_list w ↦
          let found = w.in-Some.ensures.found in
          let l = w.in-Some.list.now in
          rw w.standing-is (standing_used V js key places asked k p l c.loop-place.standing.listed c.loop-place.standing.revoked w.add_list.new.revoked c.loop-place.invariant c.loop-place-test.true at found.0 found.1
          (subst (λ ts. (s : Bor (List ℕ)) → HasEqual s.now asked → IsTrue (sorted.contains R w.add_list.new.revoked s) ↔ (IsTrue (sorted.contains R c.loop-place.standing.revoked s) ⊎ HasEqual s.now ts)) w.deref.ensures.value w.in_ok-add_list.ensures))
      | in_default w ↦
          rw w.standing-is (standing_same V js key places asked k p c.loop-place.standing.listed c.loop-place.standing.revoked c.loop-place.invariant c.loop-place-test.true at (w.in_default.ensures.only refl))
    ]

pub returns-clause-listed : goal.returns-clause-listed
returns-clause-listed c =
    let end : c.loop-place.place-index ≡ length c.args.places.now = omega arith in
    let i = c.loop-place.invariant in
    let lists = before_all (IsUsedAt anything c.args.items.now []) c.args.places.now c.loop-place.place-index end in
    (λ t. lists.0 (i.lists.0 t), λ h. i.lists.1 (lists.1 h))

pub returns-clause-revoked : goal.returns-clause-revoked
returns-clause-revoked c =
    let end : c.loop-place.place-index ≡ length c.args.places.now = omega arith in
    let i = c.loop-place.invariant in
    λ s wanted. let a = before_all (IsUsedAgainstAt anything c.args.items.now [] s.now) c.args.places.now c.loop-place.place-index end in
    (λ t. a.0 ((i.serials s wanted).0 t), λ h. (i.serials s wanted).1 (a.1 h))
