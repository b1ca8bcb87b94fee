use Rattle.std.proofs.Common.{refl, false}
use Rattle.cert_framing.proofs.Bundles.{stands_at_start}
use Rattle.cert_framing.proofs.bundle.Bundle.new.Goals as goal

pub returns-clause-empty : goal.returns-clause-empty
returns-clause-empty c = rw (c.new.ensures.items, c.new-2.ensures.items) (stands_at_start c.args.limit false refl)
