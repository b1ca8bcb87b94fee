use Rattle.cert_reasons.specs.Found.{HasFoundReason}
use Rattle.cert_reasons.specs.Links.{link_order}
use Rattle.cert_reasons.proofs.Ordered.{up_all}
use Rattle.cert_reasons.proofs.OfLinks.{kinds_end}
use Rattle.cert_reasons.proofs.links.reasons_from.Goals as goal

pub returns : goal.returns
returns c = up_all link_order (HasFoundReason c.args.findings.now) c.add_lacking.new.found.items 4 c.in_ok-add_lacking.ensures kinds_end
