use Rattle.std.proofs.Common.{refl, inl}
use Rattle.cert_model.specs.ClassView.{class_view}
use Rattle.certpath_c.proofs.times.certpath_times.Goals as goal

pub returns : goal.returns
returns c = inl (refl, record { class = class_view c.in-Ok.class; is_class = c.in-Ok.ensures.class; times = c.in-Some.ensures.found })
