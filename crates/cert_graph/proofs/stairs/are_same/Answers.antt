-- Place by place.
use Rattle.std.proofs.Common.{◌<◌, arith, refl}
use Rattle.std.proofs.lemmas.List.{ext_get_or}
use Rattle.cert_graph.specs.declared.reach.Reach.TheVariants.{No}
use Rattle.cert_graph.proofs.stairs.are_same.Goals as goal

pub returns : goal.returns
returns c = (
  λ t. ext_get_or (record { position = 0; reach = No }) c.args.first.now c.args.second.now c.if-first-second.false
      (λ i lt. let before : i < c.loop-place.place = omega arith in c.loop-place.invariant i (record { position = 0; reach = No }) before),
  λ e. refl,
)
