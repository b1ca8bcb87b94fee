use Rattle.std.proofs.Common.{[], sym, append-nil}
use Rattle.certpath_why.proofs.Telling.{told_target, told_other}
use Rattle.certpath_why.proofs.certificates.tell_no_issuer.Goals as goal

pub returns-then-place-target : goal.returns-then-place-target
returns-then-place-target c = ([], sym (append-nil _), (c.in_ok-reasons.reasons.items, c.in_ok-reasons.ensures.all, told_target c.args.place c.args.target _ c.if-place-target.true))

pub returns : goal.returns
returns c = (_, rw c.deref.ensures.value at c.in_ok-push_all_no_issuer.ensures, (c.in_ok-reasons.reasons.items, c.in_ok-reasons.ensures.all, told_other c.args.place c.args.target _ c.if-place-target.false))
