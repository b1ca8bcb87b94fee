use Rattle.std.proofs.Common.{subst, get_or}
use Rattle.cert_judge.specs.Serials.{IsSetOf}
use Rattle.cert_judge.proofs.SerialFacts.{sets_more}
use Rattle.cert_judge.proofs.standing.long_lists.Goals as goal
use Rattle.cert_judge.proofs.standing.long_lists.Goals.{in-Some+then-len-gt-FEW_ENTRIES+in_ok-set+in_ok-insert+in-Some-1, in-Some+then-len-gt-FEW_ENTRIES+in_ok-set+in_ok-insert+in-None-1, in-Some+else-len-gt-FEW_ENTRIES, in_default}

pub loop-place-preserved : goal.loop-place-preserved
loop-place-preserved c =
    let js = c.args.items.now in
    let sets = c.loop-place.sets in
    let p = get_or c.args.places.now c.loop-place.place-index 0 in
    elim c.match-used_list.branch [
      | in-Some+then-len-gt-FEW_ENTRIES+in_ok-set+in_ok-insert+in-Some-1 w ↦
          rw w.sets-is (sets_more js sets w.insert.new.self p w.in_ok-set.set w.in-Some.list.now c.loop-place.invariant w.in-Some.ensures.found.0
          (subst (λ ts. IsSetOf ts w.in_ok-set.set) w.deref.ensures.value w.in_ok-set.ensures) (λ q. w.in_ok-insert.ensures.updates.0 q))
      | in-Some+then-len-gt-FEW_ENTRIES+in_ok-set+in_ok-insert+in-None-1 w ↦
          rw w.sets-is (sets_more js sets w.insert.new.self p w.in_ok-set.set w.in-Some.list.now c.loop-place.invariant w.in-Some.ensures.found.0
          (subst (λ ts. IsSetOf ts w.in_ok-set.set) w.deref.ensures.value w.in_ok-set.ensures) (λ q. w.in_ok-insert.ensures.updates.0 q))
      | in-Some+else-len-gt-FEW_ENTRIES w ↦ rw w.sets-is c.loop-place.invariant
      | in_default w ↦ rw w.sets-is c.loop-place.invariant
    ]
