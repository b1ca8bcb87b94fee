use Rattle.std.proofs.Common.{◌≡◌, ◌<◌, sym, subst, length, arith, Err}
use Rattle.std.proofs.lemmas.Grind.{common_steps}
use Rattle.der_tree.specs.View.{view}
use Rattle.cert_model.proofs.ExtensionTrees.{no_object, object_with_rest}
use Rattle.cert_faults.specs.declared.places.Expected.TheVariants as wants
use Rattle.cert_faults.specs.Steps.{unlike, whole, left_after}
use Rattle.cert_faults.specs.Walks.{extensions_fault}
use Rattle.cert_faults.specs.Elements.{elements, rest, inner, IsBroken}
use Rattle.cert_faults.proofs.Faults.{all_read, extensions_sound, extensions_refused, refused_plainly, not_empty}
use Rattle.cert_faults.proofs.tagged.content_fault.Goals as goal

pub returns-in-Ok-extensions_fault : goal.returns-in-Ok-extensions_fault
returns-in-Ok-extensions_fault c =
    let found = c.in-Ok.ensures.found in
    let is = all_read c.args.content.now c.in-Ok.rest.now (view c.in-Ok.object) found.1 (grind (arith, common_steps)) in
    extensions_sound c.args.field c.args.left (view c.in-Ok.object) c.args.content.now found.0 is (sym c.in-Ok-extensions_fault.ensures)

pub returns-then-is_empty : goal.returns-then-is_empty
returns-then-is_empty c =
    let found = c.in-Ok.ensures.found in
    let is = all_read c.args.content.now c.in-Ok.rest.now (view c.in-Ok.object) found.1 (grind (arith, common_steps)) in
    let e : extensions_fault c.args.field c.args.left (view c.in-Ok.object) ≡ Err c.in-Err-extensions_fault.blame = sym c.in-Err-extensions_fault.ensures in
    (inner (view c.in-Ok.object) found.0 is e, λ small. extensions_refused c.args.field c.args.left (view c.in-Ok.object) c.args.content.now c.in-Err-extensions_fault.blame found.0 is e)

pub returns-in-Ok : goal.returns-in-Ok
returns-in-Ok c =
    let found = c.in-Ok.ensures.found in
    let long : 0 < length c.in-Ok.rest.now = grind (arith, common_steps) in
    let same : c.unlike.result ≡ unlike (whole c.args.field) wants.NothingMore (left_after c.args.left (view c.in-Ok.object)) = cc in (
      rest (view c.in-Ok.object) c.in-Ok.rest.now found.0 found.1 (not_empty c.in-Ok.rest.now long) same,
      λ small. object_with_rest c.args.content.now c.in-Ok.rest.now (view c.in-Ok.object) small found.0 found.1 long,
    )

pub returns : goal.returns
returns c =
    let none_there = refused_plainly c.in-Err.e _ c.in_default.not-Failure c.in-Err.ensures.none in (
      elements none_there (subst (λ p. IsBroken 50 p c.args.content.now c.args.left c.first_broken.result) c.whole-in_default.ensures c.first_broken.ensures),
      λ small. no_object c.args.content.now small none_there,
    )
