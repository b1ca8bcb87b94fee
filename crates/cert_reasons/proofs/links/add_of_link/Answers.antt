use Rattle.std.proofs.Common.{arith}
use Rattle.cert_reasons.specs.Found.{HasFoundReason}
use Rattle.cert_reasons.specs.Links.{link_order}
use Rattle.cert_reasons.proofs.Ordered.{up_next}
use Rattle.cert_reasons.proofs.OfLinks.{alone_place}
use Rattle.cert_reasons.proofs.links.add_of_link.Goals as goal

pub add-requires-2-clause-before : goal.add-requires-2-clause-before
add-requires-2-clause-before c = up_next link_order (HasFoundReason c.args.findings.now) c.add.new.found.items 0 1 c.in_ok-add.ensures (λ r s e. alone_place r 0 e (omega arith))

pub returns : goal.returns
returns c = up_next link_order (HasFoundReason c.args.findings.now) c.add-2.new.found.items 1 1 c.in_ok-add-2.ensures (λ r s e. alone_place r 1 e (omega arith))
