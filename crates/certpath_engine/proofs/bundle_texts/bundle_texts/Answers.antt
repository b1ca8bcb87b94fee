use Rattle.std.proofs.Common.{map, ap, refl}
use Rattle.certpath_engine.proofs.BundleLemmas.{bundle_values}
use Rattle.certpath_engine.proofs.bundle_texts.bundle_texts.Goals as goal

pub returns : goal.returns
returns c = (refl, bundle_values c.args.found.now _ (map (λ s. s.now) c.in-Some.values.now) c.in-Some.ensures (ap (map (λ s. s.now)) c.in-Ok.ensures.items))
