use Rattle.std.proofs.Common.{sym, ◌∙◌}
use Rattle.cert_vouchers.proofs.PairFacts.{parts}
use Rattle.cert_vouchers.proofs.pairs.pair_of.Goals as goal

pub returns-then-between-ne32-clause-only : goal.returns-then-between-ne32-clause-only
returns-then-between-ne32-clause-only c = λ key item t.
    let p = parts c.args.line.now key item c.split_at.result.0.now c.in_ok-between.second.now c.in_ok-between.between.now t c.split_at.ensures.front (sym c.in_ok-between.ensures.cases.0 ∙ c.split_at.ensures.back) in
    c.if-between-ne32.true p.between_is

pub returns-in_err-item-clause-only : goal.returns-in_err-item-clause-only
returns-in_err-item-clause-only c = λ key item t.
    let p = parts c.args.line.now key item c.split_at.result.0.now c.in_ok-between.second.now c.in_ok-between.between.now t c.split_at.ensures.front (sym c.in_ok-between.ensures.cases.0 ∙ c.split_at.ensures.back) in
    absurd (c.in_err-item.ensures.only item p.item_is)

pub returns-clause-only : goal.returns-clause-only
returns-clause-only c = λ key item t.
    let p = parts c.args.line.now key item c.split_at.result.0.now c.in_ok-between.second.now c.in_ok-between.between.now t c.split_at.ensures.front (sym c.in_ok-between.ensures.cases.0 ∙ c.split_at.ensures.back) in
    (c.in_ok-key.ensures.only key p.key_is, c.in_ok-item.ensures.only item p.item_is)
