-- The definitions give the octets of the examples.
use Rattle.std.proofs.Common.{◌≡◌, refl}
use Rattle.cert_model.specs.Octets.{certificate_octets, list_octets, tbs_certificate_octets, tbs_cert_list_octets, algorithm_octets, attribute_octets, relative_name_octets, name_octets, key_octets, extension_octets, extensions_octets, entry_octets}
use Rattle.cert_model.specs.Examples.{plain, constrained, issued_by_b, authority_b, revoking, octets_of_plain, octets_of_constrained, octets_of_issued_by_b, octets_of_authority_b, octets_of_revoking}

pub plain_spelled : certificate_octets plain ≡ octets_of_plain
unfolding certificate_octets tbs_certificate_octets algorithm_octets attribute_octets relative_name_octets name_octets key_octets extension_octets extensions_octets
plain_spelled = refl

pub constrained_spelled : certificate_octets constrained ≡ octets_of_constrained
unfolding certificate_octets tbs_certificate_octets algorithm_octets attribute_octets relative_name_octets name_octets key_octets extension_octets extensions_octets
constrained_spelled = refl

pub issued_by_b_spelled : certificate_octets issued_by_b ≡ octets_of_issued_by_b
unfolding certificate_octets tbs_certificate_octets algorithm_octets attribute_octets relative_name_octets name_octets key_octets extension_octets extensions_octets
issued_by_b_spelled = refl

pub authority_b_spelled : certificate_octets authority_b ≡ octets_of_authority_b
unfolding certificate_octets tbs_certificate_octets algorithm_octets attribute_octets relative_name_octets name_octets key_octets extension_octets extensions_octets
authority_b_spelled = refl

pub revoking_spelled : list_octets revoking ≡ octets_of_revoking
unfolding list_octets tbs_cert_list_octets algorithm_octets name_octets entry_octets extensions_octets
revoking_spelled = refl
