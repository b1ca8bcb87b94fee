use Rattle.std.proofs.Common.{arith}
use Rattle.cert_reasons.specs.Found.{HasFoundReason}
use Rattle.cert_reasons.specs.Links.{link_order}
use Rattle.cert_reasons.proofs.Ordered.{up_next}
use Rattle.cert_reasons.proofs.OfLinks.{alone_place}
use Rattle.cert_reasons.proofs.links.add_lacking.Goals as goal

pub returns : goal.returns
returns c = up_next link_order (HasFoundReason c.args.findings.now) c.add.new.found.items 3 1 c.in_ok-add.ensures (λ r s e. alone_place r 3 e (omega arith))
