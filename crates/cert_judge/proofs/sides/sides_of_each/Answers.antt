use Rattle.std.proofs.Common.{◌≡◌, ◌∙◌, ap, sym, subst, ℕ, ◌+◌, ◌<◌, ◌++◌, ◌∷◌, [], length, get_or, Vec, Global, arith}
use Rattle.std.proofs.lemmas.List.{length-map}
use Rattle.std.specs.Prelude.{◌↔◌, ◌⊎◌, Contains}
use Rattle.cert_judge.proofs.Listed.{lists_of, list_at, mapped_push}
use Rattle.cert_judge.proofs.Siding.{EachInTwo, each_more, each_all}
use Rattle.cert_judge.proofs.sides.sides_of_each.Goals as goal

pub loop-number-preserved : goal.loop-number-preserved
loop-number-preserved c =
    let rows = lists_of c.args.rows.now in
    let k = c.loop-number.number in
    let row = c.index-rows-number.result in
    let few = c.loop-number.few.items in
    let many = c.loop-number.many.items in
    let f = c.in_ok-sides.sides.few in
    let m = c.in_ok-sides.sides.many in
    let lt : k < length c.args.rows.now = omega arith in
    let lr = length-map c.args.rows.now (λ (l : Vec ℕ Global). l.items) in
    let at : row.items ≡ get_or rows k [] = sym (list_at c.args.rows.now k row [] lt c.index-rows-number.is) in
    let two = subst (λ z. (d : ℕ) → Contains z d ↔ (Contains f.items d ⊎ Contains m.items d)) c.deref.ensures.value c.in_ok-sides.ensures in
    let next = each_more rows (lists_of few) (lists_of many) k row.items f.items m.items (subst (λ i. k < i) (sym lr) lt) at two c.loop-number.invariant in
    subst (λ z. EachInTwo rows (k + 1) z (lists_of c.push-in-loop-number.new.self.items)) (sym (ap lists_of c.in_ok-push.ensures.items ∙ mapped_push few f))
    (subst (λ z. EachInTwo rows (k + 1) (lists_of few ++ f.items ∷ []) z) (sym (ap lists_of c.in_ok-push-2.ensures.items ∙ mapped_push many m)) next)

pub returns-clause-whole : goal.returns-clause-whole
returns-clause-whole c =
    let lr = length-map c.args.rows.now (λ (l : Vec ℕ Global). l.items) in
    let end : c.loop-number.number ≡ length c.args.rows.now = omega arith in
    each_all (lists_of c.args.rows.now) (lists_of c.loop-number.few.items) (lists_of c.loop-number.many.items) c.loop-number.number (end ∙ sym lr) c.loop-number.invariant
