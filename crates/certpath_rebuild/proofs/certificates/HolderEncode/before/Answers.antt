use Rattle.std.proofs.Common.{subst}
use Rattle.certpath_rebuild.proofs.Ends.{Finds}
use Rattle.certpath_rebuild.proofs.certificates.HolderEncode.before.Goals as goal

pub returns : goal.returns
returns c = subst (λ octets. Finds c.args.whole.now octets c.before-2.result) c.held.ensures c.before-2.ensures
