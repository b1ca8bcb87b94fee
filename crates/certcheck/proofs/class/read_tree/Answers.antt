use Rattle.std.proofs.Common.{rules, subst}
use Rattle.std.proofs.lemmas.Result.{IfOk-weaker}
use Rattle.der_tree.specs.Object.{IsDerObject}
use Rattle.cert_model.specs.Class.{IsClassOf}
use Rattle.cert_model.specs.ClassView.{class_view}
use Rattle.cert_model.specs.View.{any_view}
use Rattle.certcheck.proofs.Found.{not_an_object}
use Rattle.certcheck.proofs.WindowTrees.{first_is_whole, first_is_there}
use Rattle.certcheck.proofs.class.read_tree.Goals as goal

pub returns-then-not-is_der_object : goal.returns-then-not-is_der_object
returns-then-not-is_der_object c = record { class = not_an_object c.args.item.now (λ p. let yes = c.is_der_object.ensures.1 p in cc) }

pub class_of-requires : goal.class_of-requires
class_of-requires c =
    let object : IsDerObject 50 c.args.item.now = c.is_der_object.ensures.0 (search rules) in
    (first_is_whole c.args.item.now (any_view c.in-Some.object) _ object c.in-Some.ensures.trees).0

pub returns-in-Some : goal.returns-in-Some
returns-in-Some c =
    let object : IsDerObject 50 c.args.item.now = c.is_der_object.ensures.0 (search rules) in
    let whole = (first_is_whole c.args.item.now (any_view c.in-Some.object) _ object c.in-Some.ensures.trees).1 in
    record { class = IfOk-weaker c.class_of.result _ _ (λ r p. subst (λ s. IsClassOf s (class_view r)) whole p) c.class_of.ensures }

pub returns-in-None : goal.returns-in-None
returns-in-None c =
    let object : IsDerObject 50 c.args.item.now = c.is_der_object.ensures.0 (search rules) in
    absurd (first_is_there c.args.item.now object c.in-None.ensures.trees)
