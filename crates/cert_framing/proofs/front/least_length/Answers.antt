use Rattle.std.proofs.Common.{sym, ◌∙◌, get_or, subst, Some, ℕ, arith}
use Rattle.std.proofs.lemmas.Bool.{ltb-true, ltb-false, eqb-true}
use Rattle.cert_framing.specs.Fronts.{IsLeastLength}
use Rattle.cert_framing.proofs.Numbers.{none_of_zero, none_of_small, least_of_known, least_of_unknown, least_of_lone, below_from}
use Rattle.cert_framing.proofs.front.least_length.Goals as goal
use Rattle.cert_framing.proofs.front.least_length.Goals.{then-first-eq0-via-then-first-eq0, then-first-eq0-via-else-first-eq0+then-first-lt128, then-count-eq1-2, else-count-eq1-2}

pub returns-then-first-eq0 : goal.returns-then-first-eq0
returns-then-first-eq0 c = λ n long.
    elim c.then-first-eq0.branch [
      | then-first-eq0-via-then-first-eq0 w ↦ none_of_zero c.args.known.now c.args.count n (omega arith) (omega arith) long
      | then-first-eq0-via-else-first-eq0+then-first-lt128 w ↦ elim w.if-count-eq1-2.branch [
        | then-count-eq1-2 w' ↦ none_of_small c.args.known.now c.args.count n (omega arith) (omega arith)
            (ltb-true (get_or c.args.known.now 0 0) 128 (sym w'.value-is ∙ w.if-first-lt128.true)) long
        | else-count-eq1-2 w' ↦ absurd (w'.if-count-eq1-2.false (eqb-true c.args.count 1 (sym w'.value-is ∙ w.if-first-lt128.true)))
      ]
    ]

pub returns-then-count-eq1 : goal.returns-then-count-eq1
returns-then-count-eq1 c = least_of_lone c.args.known.now c.args.count (omega arith) (omega arith)

pub returns-else-count-eq1 : goal.returns-else-count-eq1
returns-else-count-eq1 c =
    subst (λ (n : ℕ). IsLeastLength c.args.known.now c.args.count (Some n)) (sym c.raised.ensures)
    (least_of_unknown c.fewest_digits.ensures c.args.known.now c.args.count (omega arith) (omega arith))

pub returns-else-first-lt128 : goal.returns-else-first-lt128
returns-else-first-lt128 c =
    let value = c.raised-in-len1-up.ensures in
    rw (value, c.number_of.ensures.value)
    (least_of_known c.fewest_digits.ensures c.args.known.now c.args.count _ (omega arith) (omega arith) (below_from c.args.known.now (λ k. omega (arith, c.type_inv.known k)))
    (omega arith) (λ one.
    elim c.if-count-eq1-2.branch [
      | then-count-eq1-2 w ↦ ltb-false (get_or c.args.known.now 0 0) 128 (sym w.value-is ∙ c.if-first-lt128.false)
      | else-count-eq1-2 w ↦ absurd (w.if-count-eq1-2.false one)
    ]))
