use Rattle.host_names.proofs.LabelFacts.{same_octets, same_labels}
use Rattle.host_names.proofs.name.is_same.Goals as goal

pub returns : goal.returns
returns c = (
  λ h. same_labels c.args.name.now c.args.host.now (c.eq_ignore_ascii_case.ensures.test.0 h),
  λ h. c.eq_ignore_ascii_case.ensures.test.1 (same_octets c.args.name.now c.args.host.now h),
)
