use Rattle.std.proofs.Common.{◌≡◌, ◌≢◌, ap, subst}
use Rattle.std.specs.Prelude.{IfOk, IfErr}
use Rattle.asn1_core.specs.Elements.{Element}
use Rattle.asn1_core.specs.declared.error.Error.TheVariants.{OutOfMemory}
use Rattle.der_tree.specs.Shape.{HoldsLeaf}
use Rattle.asn1_core.specs.Views.{length_of}
use Rattle.asn1_core.specs.declared.header.Header.{Header}
use Rattle.der_tree.specs.Lengths.{HoldsOne}
use Rattle.der_tree.specs.Tree.{Content}
use Rattle.der_tree.specs.View.{as_universal, element_under, content_view}
use Rattle.der_tree.proofs.under.leaf_under.Goals as goal

pub returns-clause-found : goal.returns-clause-found
returns-clause-found c =
    let same : element_under c.with_class.result c.args.content.now ≡ as_universal (element_under c.args.header c.args.content.now) = ap (λ h. element_under h c.args.content.now) c.with_class.ensures in
    subst (λ (e : Element). IfOk c.leaf_of.result (λ d. HoldsLeaf e (content_view d))) same c.leaf_of.ensures.found

pub returns-clause-none : goal.returns-clause-none
returns-clause-none c =
    let same : element_under c.with_class.result c.args.content.now ≡ as_universal (element_under c.args.header c.args.content.now) = ap (λ h. element_under h c.args.content.now) c.with_class.ensures in
    subst (λ (e : Element). IfErr c.leaf_of.result (λ x. (x ≢ OutOfMemory) × ((d : Content) → HoldsLeaf e d → ⊥))) same c.leaf_of.ensures.none

pub returns-clause-lengths : goal.returns-clause-lengths
returns-clause-lengths c = subst (λ (h : Header). IfOk c.leaf_of.result (λ d. HoldsOne (length_of h) d (content_view d))) c.with_class.ensures c.leaf_of.ensures.lengths
