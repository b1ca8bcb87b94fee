use Rattle.std.proofs.Common.{ap₂, sym, ◌∙◌}
use Rattle.std.specs.Prelude.{nat_eq}
use Rattle.std.specs.List.{starts_with}
use Rattle.asn1_oid.proofs.Fronts.{front_from_test, test_from_front, components_from_octets, octets_from_components}
use Rattle.asn1_oid.proofs.identifier.Oid.starts_with.Goals as goal

pub returns-clause-octets : goal.returns-clause-octets
returns-clause-octets c =
    let test = c.starts_with.ensures.value ∙ ap₂ (starts_with nat_eq) c.as_bytes.ensures c.as_bytes-2.ensures in (
      λ yes. front_from_test _ _ (sym test ∙ yes),
      λ is. test ∙ test_from_front _ _ is,
    )

pub returns-clause-components : goal.returns-clause-components
returns-clause-components c =
    λ whole front w f. (
      λ yes. components_from_octets whole front _ _ w f ((returns-clause-octets c).0 yes),
      λ is. (returns-clause-octets c).1 (octets_from_components whole front _ _ w f is),
    )
