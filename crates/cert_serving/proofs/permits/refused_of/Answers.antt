use Rattle.std.proofs.Common.{◌≡◌, ◌∙◌, sym, subst, ℕ, List, ◌<◌, ◌≤◌, length, take, arith}
use Rattle.std.proofs.lemmas.List.{take_all}
use Rattle.std.proofs.lemmas.Bool.{false≢true}
use Rattle.cert_serving.specs.Refusing.{HasRefused}
use Rattle.cert_serving.specs.View.{demands_view}
use Rattle.cert_serving.proofs.Refused.{is_in, lent, none_refused, more_permitted, more_refused, inserted, one_more}
use Rattle.cert_serving.proofs.permits.refused_of.Goals as goal
use Rattle.cert_serving.proofs.permits.refused_of.Goals.{then-not-branch+in_ok-insert, else-not-branch}

pub loop-place-init : goal.loop-place-init
loop-place-init c = none_refused (demands_view c.args.demands.now) c.new-refused.result c.new-refused.ensures.empty

pub loop-place-preserved : goal.loop-place-preserved
loop-place-preserved c =
    let d = demands_view c.args.demands.now in
    let os = c.args.items.now.items in
    let k = c.loop-place.place in
    let item = c.get-octets.result.now in
    let set = c.loop-place.refused in
    let test = c.loop-place-test.true in
    let count = c.len-place-end.ensures.len in
    let lt : k < length os = omega arith in
    let told = c.in_ok-is_permitted.ensures in
    subst (λ (xs : List (List ℕ)). HasRefused d xs c.if-not-branch.refused) (sym (one_more os k item lt c.get-octets.ensures))
    (elim c.if-not-branch.branch [
      | then-not-branch+in_ok-insert w ↦
          let new = w.insert.new.self in
          rw w.refused-is (more_refused d (take k os) item set new (λ p. false≢true (sym w.if-not-branch.true ∙ told.1 p)) (λ o. inserted item o (is_in set o) (is_in new o) (w.in_ok-insert.ensures.updates.0 (lent o))) c.loop-place.invariant)
      | else-not-branch w ↦ rw w.refused-is (more_permitted d (take k os) item set (told.0 w.if-not-branch.false) c.loop-place.invariant)
    ])

pub returns : goal.returns
returns c =
    let os = c.args.items.now.items in
    let test = c.loop-place-test.false in
    let count = c.len-place-end.ensures.len in
    let all : length os ≤ c.loop-place.place = omega arith in
    subst (λ (xs : List (List ℕ)). HasRefused (demands_view c.args.demands.now) xs c.loop-place.refused) (take_all c.loop-place.place os all) c.loop-place.invariant
