use Rattle.std.proofs.Common.{◌≡◌, ◌<◌, refl, subst, length, arith}
use Rattle.std.proofs.lemmas.Grind.{common_steps}
use Rattle.der_tree.specs.View.{view}
use Rattle.cert_faults.specs.declared.places.Field.TheVariants as fields
use Rattle.cert_faults.specs.declared.places.Expected.TheVariants as wants
use Rattle.cert_faults.specs.Steps.{unlike, whole, left_after}
use Rattle.cert_faults.specs.Elements.{elements, rest, IsBroken}
use Rattle.cert_faults.proofs.Faults.{all_read, item_is, more_behind, not_empty, not_an_object, refused_plainly}
use Rattle.cert_faults.proofs.fault.item_fault.Goals as goal

pub returns-then-is_empty : goal.returns-then-is_empty
returns-then-is_empty c =
    let found = c.in-Ok.ensures.found in
    let is = all_read c.args.item.now c.in-Ok.rest.now (view c.in-Ok.object) found.1 (grind (arith, common_steps)) in
    item_is c.args.item.now (view c.in-Ok.object) (length c.args.item.now) c.field_fault.result found.0 is refl c.field_fault.ensures

pub returns-in-Ok : goal.returns-in-Ok
returns-in-Ok c =
    let found = c.in-Ok.ensures.found in
    let long : 0 < length c.in-Ok.rest.now = grind (arith, common_steps) in
    let same : c.unlike.result ≡ unlike (whole fields.Item) wants.NothingMore (left_after (length c.args.item.now) (view c.in-Ok.object)) = cc in (
      rest (view c.in-Ok.object) c.in-Ok.rest.now found.0 found.1 (not_empty c.in-Ok.rest.now long) same,
      more_behind c.args.item.now c.in-Ok.rest.now (view c.in-Ok.object) found.0 found.1 long,
    )

pub returns : goal.returns
returns c =
    let none_there = refused_plainly c.in-Err.e _ c.in_default.not-Failure c.in-Err.ensures.none in (
      elements none_there (subst (λ p. IsBroken 50 p c.args.item.now (length c.args.item.now) c.first_broken.result) c.whole-in_default.ensures c.first_broken.ensures),
      not_an_object c.args.item.now none_there,
    )
