use Rattle.asn1_oid.proofs.SpelledComponents.{answers_found, answers_only}
use Rattle.asn1_oid.proofs.identifier.read_spelled.Goals as goal

pub returns : goal.returns
returns c = record {
  found = answers_found c.read_components.result _ c.read_components.ensures;
  only = λ components s. answers_only c.read_components.result _ components s c.read_components.ensures;
}
