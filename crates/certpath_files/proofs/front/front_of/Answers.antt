use Rattle.std.proofs.Common.{arith, rules}
use Rattle.asn1_core.proofs.Numbers.{octets_below}
use Rattle.certpath_files.specs.FrontViews.{front_view}
use Rattle.certpath_files.proofs.FramedFacts.{front_framed}
use Rattle.certpath_files.proofs.front.front_of.Goals as goal

pub returns-in-Ok-clause-framed : goal.returns-in-Ok-clause-framed
returns-in-Ok-clause-framed c =
    front_framed c.args.octets.now (front_view c.by_header.result) (octets_below c.args.octets.now (λ k. omega (arith, c.type_inv.octets k))) (search rules)
