use Rattle.std.proofs.Common.{refl}
use Rattle.certpath_why.proofs.Items.{with_read, none_read}
use Rattle.certpath_why.proofs.found.is_certificate.Goals as goal

pub returns-in-Some : goal.returns-in-Some
returns-in-Some c = (λ t. (with_read (λ d. Unit {0}) c.args.items.now c.args.place c.in-Some.field-0.now c.in-Some.ensures.found).0 tt, λ h. refl)

pub returns-in-None : goal.returns-in-None
returns-in-None c = (λ t. absurd (cc), λ h. absurd (none_read c.args.items.now c.args.place (c.in-None.ensures.only refl) h))
