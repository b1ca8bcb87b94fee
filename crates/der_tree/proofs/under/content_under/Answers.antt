use Rattle.std.proofs.Common.{◌≡◌, ap, subst}
use Rattle.asn1_core.specs.Elements.{Element}
use Rattle.der_tree.specs.Outcome.{Refuses}
use Rattle.der_tree.specs.Shape.{IsContent}
use Rattle.asn1_core.specs.Views.{length_of}
use Rattle.asn1_core.specs.declared.header.Header.{Header}
use Rattle.der_tree.specs.Lengths.{HoldsDefinite}
use Rattle.der_tree.specs.Tree.{Content}
use Rattle.der_tree.specs.View.{as_universal, element_under, content_view}
use Rattle.std.specs.Prelude.{IfOk, IfErr}
use Rattle.der_tree.proofs.under.content_under.Goals as goal

pub returns-clause-found : goal.returns-clause-found
returns-clause-found c =
    let same : element_under c.with_class.result c.args.content.now ≡ as_universal (element_under c.args.header c.args.content.now) = ap (λ h. element_under h c.args.content.now) c.with_class.ensures in
    subst (λ (e : Element). IfOk c.content_of.result (λ d. IsContent c.args.levels e (content_view d))) same c.content_of.ensures.found

pub returns-clause-none : goal.returns-clause-none
returns-clause-none c =
    let same : element_under c.with_class.result c.args.content.now ≡ as_universal (element_under c.args.header c.args.content.now) = ap (λ h. element_under h c.args.content.now) c.with_class.ensures in
    subst (λ (e : Element). IfErr c.content_of.result (λ x. Refuses x ((d : Content) → IsContent c.args.levels e d → ⊥))) same c.content_of.ensures.none

pub returns-clause-lengths : goal.returns-clause-lengths
returns-clause-lengths c = subst (λ (h : Header). IfOk c.content_of.result (λ d. HoldsDefinite (length_of h) d (content_view d))) c.with_class.ensures c.content_of.ensures.lengths
