use Rattle.std.proofs.Common.{sym, ◌∙◌}
use Rattle.asn1_oid.proofs.ReadWritten.{all_octets, strict_is_content, content_is_strict}
use Rattle.asn1_oid.proofs.content.is_oid_content.Goals as goal

pub returns : goal.returns
returns c = (
  λ yes. strict_is_content _ (all_octets _ c.type_inv.octets) (sym c.strict.ensures ∙ yes),
  λ is. c.strict.ensures ∙ content_is_strict _ is,
)
