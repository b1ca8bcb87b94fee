use Rattle.std.proofs.Common.{arith, ◌≡◌, true, false, length}
use Rattle.std.specs.Prelude.{nat_eq}
use Rattle.std.specs.List.{starts_with}
use Rattle.std.proofs.lemmas.Grind.{common_steps}
use Rattle.certpath_typed.proofs.Places.{found, not_found}
use Rattle.certpath_typed.proofs.identifier.place_of.Goals as goal

pub returns-in-None : goal.returns-in-None
returns-in-None c =
    let test : starts_with nat_eq c.loop-rest.rest.now c.args.octets.now ≡ false = grind (arith, common_steps) in
    let none : length c.loop-rest.rest.now ≡ 0 = grind (arith, common_steps) in
    not_found c.args.item.now c.loop-rest.rest.now c.args.octets.now c.loop-rest.invariant test none

pub returns : goal.returns
returns c =
    let test : starts_with nat_eq c.loop-rest.rest.now c.args.octets.now ≡ true = grind (arith, common_steps) in
    found c.args.item.now c.loop-rest.rest.now c.args.octets.now test
