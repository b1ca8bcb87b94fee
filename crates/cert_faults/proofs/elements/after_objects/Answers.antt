use Rattle.std.proofs.Common.{◌∙◌, refl, ap, ◌++◌, length, arith, length-append}
use Rattle.der_tree.specs.Tree.{none, more, octets, all_octets}
use Rattle.der_tree.specs.Shape.{AreObjects}
use Rattle.der_tree.proofs.Objects.{object_long}
use Rattle.cert_faults.proofs.Broken.{joined, joined_objects, joined_octets}
use Rattle.cert_faults.proofs.elements.after_objects.Goals as goal

pub loop-rest-init : goal.loop-rest-init
unfolding AreObjects
loop-rest-init c = (none, tt, refl)

pub loop-rest-smaller : goal.loop-rest-smaller
loop-rest-smaller c =
    let found = c.in-Some.ensures in
    omega (arith, ap length found.2, length-append (octets found.0) c.in-Some.rest.now, object_long c.args.levels found.0 found.1)

pub loop-rest-preserved : goal.loop-rest-preserved
loop-rest-preserved c =
    let found = c.in-Some.ensures in
    let so_far = c.loop-rest.invariant in
    (joined so_far.0 (more found.0 none), joined_objects c.args.levels so_far.0 found.0 so_far.1 found.1, so_far.2 ∙ ap (λ z. all_octets so_far.0 ++ z) found.2 ∙ joined_octets so_far.0 found.0 c.in-Some.rest.now)
