use Rattle.std.proofs.Common.{refl, inl}
use Rattle.cert_model.specs.ClassView.{class_view}
use Rattle.certpath_c.proofs.classing.certpath_class.Goals as goal

pub returns : goal.returns
returns c = inl (refl, record { class = class_view c.in-Ok.class; is_class = c.in-Ok.ensures.class; number_is = c.class_number.ensures })
