use Rattle.std.proofs.Common.{◌≡◌, ◌∙◌, ◌+◌, ◌∷◌, sym, ap, subst, arith, List, drop, Some}
use Rattle.std.proofs.lemmas.List.{drop_more}
use Rattle.asn1_any.specs.declared.cut.Element.{Element}
use Rattle.x509_core.specs.Parts.{in_order, ahead_of}
use Rattle.x509_core.proofs.InOrder.{some_front, others_only}
use Rattle.x509_core.proofs.ahead.Ahead.front.Goals as goal

pub returns-in-Some-clause-some : goal.returns-in-Some-clause-some
unfolding ahead_of
returns-in-Some-clause-some c =
    let ahead = c.args.self.now in
    let e = c.in-Some.element in
    let others = drop ahead.at ahead.others.items in
    subst (λ f. (rest : List Element) × (in_order f ahead.second ahead.third others ≡ e ∷ rest)) (sym c.in-Some.is)
    (some_front e ahead.second ahead.third others)

pub returns-then-self-len-clause-some : goal.returns-then-self-len-clause-some
returns-then-self-len-clause-some c =
    let ahead = c.args.self.now in
    let items = ahead.others.items in (
      drop (ahead.at + 1) items,
      others_only ahead c.in_default.is ∙ drop_more items ahead.at c.index.result.now (omega (arith, c.if-self-len.true, c.len.ensures))
          ∙ ap (λ e. e ∷ drop (ahead.at + 1) items) (sym c.index.ensures),
    )
