use Rattle.std.proofs.Common.{◌≡◌, ◌≢◌, ◌∙◌, sym, ap, subst, arith, ◌≤◌, ◌+◌, ◌-◌, ◌%◌, ◌++◌, length, filter, take}
use Rattle.std.proofs.lemmas.List.Sums.{length-filter, count_by-le-length}
use Rattle.base64.specs.GeneralPurpose.{IsBytes}
use Rattle.certpath_pem.specs.Blocks.{is_symbol, by_symbols}
use Rattle.certpath_pem.specs.Starts.{start_of}
use Rattle.certpath_pem.proofs.BytesFacts.{bytes_filter}
use Rattle.certpath_pem.proofs.ContentFacts.{some_symbols, no_symbols}
use Rattle.certpath_pem.proofs.PieceFacts.{SoFar, nothing_yet, none_in_piece, some_in_piece, full_piece, none_so_far, none_holds, padded_holds, counted_within, finished, went_on}
use Rattle.certpath_pem.proofs.pieces.decoded.Goals as goal

pub loop-after-init : goal.loop-after-init
loop-after-init c = subst (λ z. SoFar c.args.limit (filter is_symbol c.args.body.now) (filter is_symbol c.args.body.now) z 0) (sym c.in_ok-first.ensures.items) (nothing_yet c.args.limit (filter is_symbol c.args.body.now))

pub returns-then-used-eq0 : goal.returns-then-used-eq0
returns-then-used-eq0 c =
    let none = none_in_piece c.next_symbols-used.new.piece c.next_symbols-used.result.1.now (filter is_symbol c.loop-after.rest.now) c.next_symbols-used.result.0 c.next_symbols-used.ensures.symbols c.next_symbols-used.ensures.full c.if-used-eq0.true in
    let all = none_so_far _ _ _ _ _ c.loop-after.invariant none in
    c.uncounted.ensures ∙ sym (ap (λ z. start_of c.args.limit (by_symbols z)) all)

pub returns-in-None : goal.returns-in-None
returns-in-None c =
    let bytes : IsBytes c.args.body.now = λ i. let f = c.type_inv.body i in omega arith in
    let none = rw c.in-None.is at c.in_ok-octets.ensures.none in
    let within : c.next_symbols-used.result.0 ≤ length c.next_symbols-used.new.piece = omega (arith, c.next_symbols-used.ensures.within) in
    let some = some_in_piece c.next_symbols-used.new.piece c.next_symbols-used.result.0 (λ e. omega (arith, c.if-used-eq0.false, e)) within in
    let full = full_piece c.next_symbols-used.new.piece c.next_symbols-used.result.1.now c.next_symbols-used.result.0 within c.next_symbols-used.ensures.full in
    let held = none_holds c.args.limit (filter is_symbol c.args.body.now) _ _ (take c.next_symbols-used.result.0 c.next_symbols-used.new.piece) _ _ c.loop-after.invariant (bytes_filter is_symbol c.args.body.now bytes) c.next_symbols-used.ensures.symbols some full none in
    c.uncounted-in-None.ensures ∙ sym (ap (start_of c.args.limit) held)

pub overflow_add-count : goal.overflow_add-count
overflow_add-count c =
    let some = rw c.in-Some.is at c.in_ok-octets.ensures.some in
    let most = counted_within _ _ _ _ _ _ c.in-Some.octets.items _ c.loop-after.invariant c.next_symbols-used.ensures.symbols some.1 in
    let symbols : length (filter is_symbol c.args.body.now) ≤ length c.args.body.now = omega (arith, length-filter is_symbol c.args.body.now, count_by-le-length is_symbol c.args.body.now) in
    let size = c.in-Some.octets.ok.0 in
    let z = c.type_inv.body in
    omega (arith, most, symbols, size, c.len-count.ensures)

pub returns-then-is_empty : goal.returns-then-is_empty
returns-then-is_empty c =
    let some = rw c.in-Some.is at c.in_ok-octets.ensures.some in
    let within : c.next_symbols-used.result.0 ≤ length c.next_symbols-used.new.piece = omega (arith, c.next_symbols-used.ensures.within) in
    let there = some_in_piece c.next_symbols-used.new.piece c.next_symbols-used.result.0 (λ e. omega (arith, c.if-used-eq0.false, e)) within in
    let none = no_symbols c.next_symbols-used.result.1.now (sym c.is_empty.ensures ∙ c.if-is_empty.true) in
    let last = c.next_symbols-used.ensures.symbols ∙ ap (λ z. take c.next_symbols-used.result.0 c.next_symbols-used.new.piece ++ filter is_symbol z) none in
    let more = c.in_ok-push_first.ensures ∙ ap (λ z. c.loop-after.first.items ++ take (c.args.limit - length c.loop-after.first.items) z) c.deref.ensures.value in
    let total : c.loop-after.count + c.len-count.result ≡ c.loop-after.count + length c.in-Some.octets.items = omega (arith, c.len-count.ensures, c.in-Some.octets.ok.0) in
    finished c.args.limit (filter is_symbol c.args.body.now) _ _ (take c.next_symbols-used.result.0 c.next_symbols-used.new.piece) c.in-Some.octets.items _ _ _ c.loop-after.invariant last there some.0 some.1 more total

pub returns-then-len-ne0 : goal.returns-then-len-ne0
returns-then-len-ne0 c =
    let bytes : IsBytes c.args.body.now = λ i. let f = c.type_inv.body i in omega arith in
    let some = rw c.in-Some.is at c.in_ok-octets.ensures.some in
    let within : c.next_symbols-used.result.0 ≤ length c.next_symbols-used.new.piece = omega (arith, c.next_symbols-used.ensures.within) in
    let there = some_in_piece c.next_symbols-used.new.piece c.next_symbols-used.result.0 (λ e. omega (arith, c.if-used-eq0.false, e)) within in
    let left = some_symbols c.next_symbols-used.result.1.now (sym c.is_empty.ensures ∙ c.if-is_empty.false) in
    let more = c.next_symbols-used.ensures.more left in
    let full = full_piece c.next_symbols-used.new.piece c.next_symbols-used.result.1.now c.next_symbols-used.result.0 within c.next_symbols-used.ensures.full more in
    let odd : length c.in-Some.octets.items % 3 ≢ 0 = λ e. omega (arith, c.if-len-ne0.true, c.len.ensures, c.in-Some.octets.ok.0, e) in
    let held = padded_holds c.args.limit (filter is_symbol c.args.body.now) _ _ (take c.next_symbols-used.result.0 c.next_symbols-used.new.piece) _ c.in-Some.octets.items _ c.loop-after.invariant
    (bytes_filter is_symbol c.args.body.now bytes) c.next_symbols-used.ensures.symbols there more full some.0 some.1 odd in
    c.uncounted-then-len-ne0.ensures ∙ sym (ap (start_of c.args.limit) held)

pub loop-after-preserved : goal.loop-after-preserved
loop-after-preserved c =
    let some = rw c.in-Some.is at c.in_ok-octets.ensures.some in
    let left = some_symbols c.next_symbols-used.result.1.now (sym c.is_empty.ensures ∙ c.if-is_empty.false) in
    let more = c.next_symbols-used.ensures.more left in
    let groups : length c.in-Some.octets.items % 3 ≡ 0 = omega (arith, c.if-len-ne0.false, c.len.ensures, c.in-Some.octets.ok.0) in
    let kept = c.in_ok-push_first.ensures ∙ ap (λ z. c.loop-after.first.items ++ take (c.args.limit - length c.loop-after.first.items) z) c.deref.ensures.value in
    let total : c.loop-after.count + c.len-count.result ≡ c.loop-after.count + length c.in-Some.octets.items = omega (arith, c.len-count.ensures, c.in-Some.octets.ok.0) in
    went_on c.args.limit (filter is_symbol c.args.body.now) _ _ (take c.next_symbols-used.result.0 c.next_symbols-used.new.piece) _ c.in-Some.octets.items _ _ _ c.loop-after.invariant
    c.next_symbols-used.ensures.symbols more some.0 some.1 groups kept total
