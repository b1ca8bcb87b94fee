use Rattle.std.proofs.Common.{rules, map}
use Rattle.der_tree.specs.Object.{IsDerObject}
use Rattle.cert_model.specs.View.{any_view, ext_view}
use Rattle.certcheck.specs.Windows.{tree_of}
use Rattle.certcheck.proofs.Found.{extensions_exact, no_extensions}
use Rattle.certcheck.proofs.WindowTrees.{first_is_whole, first_is_there}
use Rattle.certcheck.proofs.extensions.extensions_within.Goals as goal

pub returns-then-not-is_der_object : goal.returns-then-not-is_der_object
returns-then-not-is_der_object c = no_extensions c.args.content.now c.requires (λ p. let yes = c.is_der_object.ensures.1 p in cc)

pub returns-in-Some : goal.returns-in-Some
returns-in-Some c =
    let object : IsDerObject 50 c.args.content.now = c.is_der_object.ensures.0 (search rules) in
    let whole = first_is_whole c.args.content.now (any_view c.in-Some.object) _ object c.in-Some.ensures.trees in
    extensions_exact (λ v. map ext_view v.items) (tree_of (any_view c.in-Some.object)) c.args.content.now whole.0 whole.1 c.extensions_of.result c.extensions_of.ensures

pub returns-in-None : goal.returns-in-None
returns-in-None c =
    let object : IsDerObject 50 c.args.content.now = c.is_der_object.ensures.0 (search rules) in
    absurd (first_is_there c.args.content.now object c.in-None.ensures.trees)
