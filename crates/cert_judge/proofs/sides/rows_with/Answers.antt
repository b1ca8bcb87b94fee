-- One number more of a row, and one row more.
use Rattle.std.proofs.Common.{◌≡◌, ℕ, ◌+◌, ◌<◌, List, length, get_or, sym, Vec, Global, arith, subst}
use Rattle.std.proofs.lemmas.List.{length-map}
use Rattle.cert_graph.specs.Lists.{AreFilled}
use Rattle.cert_graph.proofs.Filled.{filled_none, filled_put, filled_weaker}
use Rattle.cert_graph.proofs.EntryFacts.{named_none, named_more, named_all}
use Rattle.cert_judge.specs.Copies.{IsIn}
use Rattle.cert_judge.proofs.Listed.{lists_of, list_at}
use Rattle.cert_judge.proofs.sides.rows_with.Goals as goal

pub loop-number-init : goal.loop-number-init
loop-number-init c = filled_none (IsIn (lists_of c.args.rows.now)) c.args.count c.in_ok-lists.lists.items c.in_ok-lists.ensures.count c.in_ok-lists.ensures.empty

pub loop-place-init : goal.loop-place-init
loop-place-init c =
    let R = IsIn (lists_of c.args.rows.now) in
    let v = c.loop-number.number in
    filled_weaker R _ c.args.count v (v + 1) (lists_of c.loop-number.lists.items) (omega arith) c.loop-number.invariant (λ u k small here. named_none R v u k small)

pub loop-place-preserved : goal.loop-place-preserved
loop-place-preserved c =
    let R = IsIn (lists_of c.args.rows.now) in
    let v = c.loop-number.number in
    let named = c.deref-place-items.result.now in
    let i = c.loop-place.place-index in
    filled_put _ _ c.args.count (v + 1) v (get_or named i 0) (lists_of c.loop-place.lists.items) (lists_of c.put.new.lists.items) (omega arith) c.loop-place.invariant c.in_ok-put.ensures
    (λ u k small here. named_more R v named i c.loop-place-test.true u k small)

pub loop-number-preserved : goal.loop-number-preserved
loop-number-preserved c =
    let rows = c.args.rows.now in
    let R = IsIn (lists_of rows) in
    let v = c.loop-number.number in
    let named = c.deref-place-items.result.now in
    let i = c.loop-place.place-index in
    let row = c.index-rows-number.result in
    let long = length-map rows (λ (l : Vec ℕ Global). l.items) in
    filled_weaker _ R c.args.count (v + 1) (v + 1) (lists_of c.loop-place.lists.items) (omega arith) c.loop-place.invariant
    (λ u k small here. named_all (λ (xs : List ℕ). xs) (lists_of rows) v row.items named i (subst (λ n. v < n) (sym long) c.loop-number-test.true) (sym (list_at rows v row row.items c.loop-number-test.true c.index-rows-number.is)) c.deref-place-items.ensures.value c.loop-place-test.false u k small)

pub returns : goal.returns
returns c =
    let all : c.loop-number.number ≡ length c.args.rows.now = omega arith in
    subst (λ (n : ℕ). AreFilled (IsIn (lists_of c.args.rows.now)) c.args.count n (lists_of c.loop-number.lists.items)) all c.loop-number.invariant
