-- What the values of this crate's types are, as the data of `Values`.
use Rattle.std.specs.Prelude.{List, option_map, map}
use Rattle.x509_ext_policies.specs.Values as values
use Rattle.x509_ext_policies.specs.declared.policies.PolicyQualifierInfo.{PolicyQualifierInfo}
use Rattle.x509_ext_policies.specs.declared.policies.PolicyInformation.{PolicyInformation}
use Rattle.x509_ext_policies.specs.declared.purposes.ExtendedKeyUsage.{ExtendedKeyUsage}
use Rattle.x509_ext_policies.specs.declared.mappings.PolicyMapping.{PolicyMapping}
use Rattle.x509_ext_policies.specs.declared.mappings.PolicyMappings.{PolicyMappings}

abbrev pub qualifier_view : PolicyQualifierInfo → values.PolicyQualifierInfo
qualifier_view q = record { policy_qualifier_id = q.policy_qualifier_id; qualifier = q.qualifier.now }

abbrev pub policy_view : PolicyInformation → values.PolicyInformation
policy_view p = record { policy_id = p.policy_id; policy_qualifiers = option_map (λ v. map qualifier_view v.items) p.policy_qualifiers }

abbrev pub mapping_view : PolicyMapping → values.PolicyMapping
mapping_view m = record { issuer_domain_policy = m.issuer_domain_policy; subject_domain_policy = m.subject_domain_policy }

abbrev pub mappings_view : PolicyMappings → List values.PolicyMapping
mappings_view m = map mapping_view m.mappings.items

abbrev pub purposes_view : ExtendedKeyUsage → values.ExtendedKeyUsage
purposes_view u = record {
  any = u.any;
  server_auth = u.server_auth;
  client_auth = u.client_auth;
  code_signing = u.code_signing;
  email_protection = u.email_protection;
  time_stamping = u.time_stamping;
  ocsp_signing = u.ocsp_signing;
  other = u.other.items;
}
