use Rattle.std.proofs.Common.{◌≡◌, ◌∙◌, sym, ap, false}
use Rattle.asn1_core.specs.declared.tag.Tag.{Tag}
use Rattle.der_tree.specs.Table.{is_listed}
use Rattle.der_tree.specs.View.{element_under}
use Rattle.der_tree.proofs.Leaves.{raw_found}
use Rattle.der_tree.proofs.leaf.is_leaf.Goals as goal

pub returns-then-not-is_universal-clause-found : goal.returns-then-not-is_universal-clause-found
returns-then-not-is_universal-clause-found c = λ yes.
    raw_found (element_under c.args.header c.args.content.now) (λ class. let x = c.is_universal.ensures.1 class in let y = c.if-not-is_universal.true in absurd cc)

pub returns-then-not-has_line-clause-found : goal.returns-then-not-has_line-clause-found
returns-then-not-has_line-clause-found c = λ yes.
    let y = c.if-not-has_line.true in
    let none : c.has_line.result ≡ false = cc in
    raw_found (element_under c.args.header c.args.content.now) (λ class. ap (λ (t : Tag). is_listed t.0) (sym c.tag.ensures) ∙ sym c.has_line.ensures ∙ none)
