use Rattle.std.proofs.Common.{◌≡◌, ◌∙◌, ap, sym, subst, ℕ, ◌+◌, ◌<◌, List, [], length, get_or, Bor, arith}
use Rattle.std.specs.Prelude.{◌↔◌, All, Contains}
use Rattle.std.specs.List.Sorted.{IsStrictlyIncreasing}
use Rattle.cert_judge.specs.Rows.{AreRows}
use Rattle.cert_judge.specs.Standing.{anything, IsIssuedAt}
use Rattle.cert_judge.specs.Copies.{places_at}
use Rattle.cert_judge.proofs.Listed.{lists_of, mapped_push}
use Rattle.cert_judge.proofs.Vouched.{IssuedRowsUpTo, rows_next, rows_whole, row_within, vouched_row}
use Rattle.cert_judge.proofs.name_groups.issued_by_each.Goals as goal

pub issued_under-requires-clause-ascends : goal.issued_under-requires-clause-ascends
issued_under-requires-clause-ascends g c =
    let V = (g.V.Vouch.vouches_for c.args.vouch.now).Vouches in
    let keys = c.args.keys.now in
    let octets = c.in_ok-octets.octets.items in
    let numbers = c.in_ok-numbers.numbers.items in
    let vouched = c.in_ok-vouched.vouched.items in
    let k = c.loop-number.number in
    let all = subst (λ o. AreRows V keys o numbers vouched) c.deref.ensures.value (subst (λ l. AreRows V keys c.deref.result.now l vouched) c.deref-2.ensures.value c.in_ok-vouched.ensures) in
    let count = all.count in
    let lt : k < length keys = omega arith in
    let key : Bor (List ℕ) = record { ref_ptr = (0, 0); now = [] } in
    subst IsStrictlyIncreasing (sym c.deref-in-loop-number.ensures.value) (vouched_row V keys octets numbers vouched k c.index-row.result.now all lt c.index-row.ensures key).ascends

pub issued_under-requires-clause-within : goal.issued_under-requires-clause-within
issued_under-requires-clause-within g c =
    let V = (g.V.Vouch.vouches_for c.args.vouch.now).Vouches in
    let keys = c.args.keys.now in
    let firsts = c.args.firsts.now in
    let octets = c.in_ok-octets.octets.items in
    let numbers = c.in_ok-numbers.numbers.items in
    let vouched = c.in_ok-vouched.vouched.items in
    let k = c.loop-number.number in
    let all = subst (λ o. AreRows V keys o numbers vouched) c.deref.ensures.value (subst (λ l. AreRows V keys c.deref.result.now l vouched) c.deref-2.ensures.value c.in_ok-vouched.ensures) in
    let count = all.count in
    let lt : k < length keys = omega arith in
    let key : Bor (List ℕ) = record { ref_ptr = (0, 0); now = [] } in
    let row = c.index-row.result.now in
    subst (All (λ d. d < length firsts)) (sym c.deref-in-loop-number.ensures.value)
    (row_within V c.args.demand_lists c.args.items.now firsts octets numbers c.in_ok-octets.ensures c.in_ok-numbers.ensures.exact c.requires (get_or keys k key).now row.items (vouched_row V keys octets numbers vouched k row all lt c.index-row.ensures key))

pub loop-number-preserved : goal.loop-number-preserved
loop-number-preserved g c =
    let V = (g.V.Vouch.vouches_for c.args.vouch.now).Vouches in
    let demand = c.args.demand_lists in
    let js = c.args.items.now in
    let keys = c.args.keys.now in
    let firsts = c.args.firsts.now in
    let octets = c.in_ok-octets.octets.items in
    let numbers = c.in_ok-numbers.numbers.items in
    let vouched = c.in_ok-vouched.vouched.items in
    let k = c.loop-number.number in
    let rows = c.loop-number.rows.items in
    let all = subst (λ o. AreRows V keys o numbers vouched) c.deref.ensures.value (subst (λ l. AreRows V keys c.deref.result.now l vouched) c.deref-2.ensures.value c.in_ok-vouched.ensures) in
    let count = all.count in
    let lt : k < length keys = omega arith in
    let row = c.index-row.result.now in
    let x = c.in_ok-issued_under.field-0 in
    let exact = subst (λ l. (d : ℕ) → Contains x.items d ↔ (Contains l d × IsIssuedAt anything demand js (places_at firsts l) [] (get_or firsts d 0))) c.deref-in-loop-number.ensures.value c.in_ok-issued_under.ensures in
    let next = rows_next V demand js firsts octets numbers c.in_ok-octets.ensures c.in_ok-numbers.ensures.exact c.requires keys k (lists_of rows) row.items x.items (vouched_row V keys octets numbers vouched k row all lt c.index-row.ensures) exact c.loop-number.invariant in
    subst (IssuedRowsUpTo V demand js firsts keys (k + 1)) (sym (ap lists_of c.in_ok-push.ensures.items ∙ mapped_push rows x)) next

pub returns : goal.returns
returns g c =
    let V = (g.V.Vouch.vouches_for c.args.vouch.now).Vouches in
    let keys = c.args.keys.now in
    let numbers = c.in_ok-numbers.numbers.items in
    let vouched = c.in_ok-vouched.vouched.items in
    let all = subst (λ o. AreRows V keys o numbers vouched) c.deref.ensures.value (subst (λ l. AreRows V keys c.deref.result.now l vouched) c.deref-2.ensures.value c.in_ok-vouched.ensures) in
    let count = all.count in
    let end : c.loop-number.number ≡ length keys = omega arith in
    rows_whole V c.args.demand_lists c.args.items.now c.args.firsts.now keys c.loop-number.number (lists_of c.loop-number.rows.items) end c.loop-number.invariant
