use Rattle.std.proofs.Common.{sym, ap, ◌∙◌}
use Rattle.asn1_traits.specs.Integers.{integer_octets}
use Rattle.asn1_values.proofs.Spelling.{spelled_once}
use Rattle.asn1_values.proofs.laws.one_spelling.Goals as goal

pub returns : goal.returns
returns c = record {
  spelled = spelled_once;
  once = λ left right below below' strict strict' same. spelled_once left below strict ∙ ap integer_octets same ∙ sym (spelled_once right below' strict');
}
