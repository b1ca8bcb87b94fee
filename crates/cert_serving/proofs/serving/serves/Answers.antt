use Rattle.std.proofs.Common.{map, subst, false}
use Rattle.std.proofs.lemmas.Bool.{false≢true}
use Rattle.cert_model.specs.View.{ext_view}
use Rattle.cert_purpose.proofs.Ones.{one_of_one, one_not_none, more_not_one}
use Rattle.host_names.specs.Asked.{host_view}
use Rattle.cert_serving.specs.Serving.{subject_alt_name, Names}
use Rattle.cert_serving.proofs.serving.serves.Goals as goal

pub returns-in-Missing : goal.returns-in-Missing
returns-in-Missing c = (
  λ h. absurd (false≢true h),
  λ s. absurd (one_not_none subject_alt_name (map ext_view c.args.extensions.now) s.0 s.1 c.in-Missing.ensures),
)

pub returns-in-One : goal.returns-in-One
returns-in-One c = (
  λ h. (c.in-One.value.now, c.in-One.ensures, c.has_name.ensures.0 h),
  λ s. c.has_name.ensures.1 (subst (Names (host_view c.args.host.now)) (one_of_one subject_alt_name (map ext_view c.args.extensions.now) s.0 c.in-One.value.now s.1 c.in-One.ensures) s.2),
)

pub returns-in-More : goal.returns-in-More
returns-in-More c = (
  λ h. absurd (false≢true h),
  λ s. absurd (more_not_one subject_alt_name (map ext_view c.args.extensions.now) s.0 c.in-More.ensures s.1),
)
