use Rattle.std.proofs.Common.{refl}
use Rattle.certpath_why.proofs.certificates.tell_unusable.Goals as goal

pub returns : goal.returns
returns g c = (_, rw c.deref.ensures.value at c.in_ok-push_all_unusable.ensures, (c.in_ok-reasons.reasons.items, rw c.moment-moment.ensures at c.in_ok-reasons.ensures.all, refl))
