use Rattle.std.proofs.Common.{sym, ◌∙◌}
use Rattle.asn1_oid.proofs.SpelledComponents.{spelled_components}
use Rattle.asn1_oid.proofs.laws.one_spelling.Goals as goal

pub returns : goal.returns
returns c = record {
  components = λ first second octets a b. sym (spelled_components first octets a) ∙ spelled_components second octets b;
  octets = λ components first second a b. a.spelled ∙ sym b.spelled;
}
