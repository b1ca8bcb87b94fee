-- What a parsed value stands for, as the data of the values of extensions.
use Rattle.std.specs.Prelude.{All, map}
use Rattle.asn1_unsigned.specs.Numbers.{number_of}
use Rattle.x509_ext_basic.specs.x509_time.specs.View.{time_view}
use Rattle.x509_ext_parse.specs.Values as values
use Rattle.x509_ext_parse.specs.Parts as parts
use Rattle.x509_ext_parse.specs.declared.parsed.ParsedExtension.{ParsedExtension}
use Rattle.x509_ext_parse.specs.declared.parsed.ParsedExtension.TheVariants as cases

abbrev pub parsed_view : ParsedExtension → values.Parsed
parsed_view (cases.UnsupportedExtension id) = values.unsupported id
parsed_view (cases.ParseError e) = values.parse_error
parsed_view (cases.AuthorityKeyIdentifier a) = values.authority_key_identifier (parts.authority_key_view a)
parsed_view (cases.SubjectKeyIdentifier k) = values.subject_key_identifier k.0.now
parsed_view (cases.KeyUsage u) = values.key_usage u.flags
parsed_view (cases.CertificatePolicies v) = values.certificate_policies (map parts.policy_view v.items)
parsed_view (cases.PolicyMappings m) = values.policy_mappings (map parts.mapping_view m.mappings.items)
parsed_view (cases.SubjectAlternativeName n) = values.subject_alternative_name (map parts.general_name_view n.general_names.items)
parsed_view (cases.IssuerAlternativeName n) = values.issuer_alternative_name (map parts.general_name_view n.general_names.items)
parsed_view (cases.BasicConstraints c) = values.basic_constraints (parts.basic_constraints_view c)
parsed_view (cases.NameConstraints c) = values.name_constraints (parts.name_constraints_view c)
parsed_view (cases.PolicyConstraints c) = values.policy_constraints (parts.policy_constraints_view c)
parsed_view (cases.ExtendedKeyUsage u) = values.extended_key_usage (parts.purposes_view u)
parsed_view (cases.CRLDistributionPoints p) = values.crl_distribution_points (map parts.point_view p.points.items)
parsed_view (cases.InhibitAnyPolicy p) = values.inhibit_any_policy p.skip_certs
parsed_view (cases.AuthorityInfoAccess a) = values.authority_info_access (map parts.access_view a.accessdescs.items)
parsed_view (cases.SubjectInfoAccess a) = values.subject_info_access (map parts.access_view a.accessdescs.items)
parsed_view (cases.NSCertType t) = values.ns_cert_type t.0
parsed_view (cases.NsCertComment text) = values.ns_cert_comment text.now
parsed_view (cases.IssuingDistributionPoint p) = values.issuing_distribution_point (parts.issuing_point_view p)
parsed_view (cases.CRLNumber n) = values.crl_number (number_of n)
parsed_view (cases.ReasonCode r) = values.reason_code r.0
parsed_view (cases.InvalidityDate t) = values.invalidity_date (time_view t)
parsed_view (cases.SCT v) = values.sct (map parts.timestamp_view v.items)
parsed_view cases.Unparsed = values.unparsed

-- the elements in a value have the lengths of their contents
abbrev pub HasCountedElements : ParsedExtension → Type 0
HasCountedElements (cases.AuthorityKeyIdentifier a) = parts.IsCountedIdentifier a
HasCountedElements (cases.SubjectAlternativeName n) = All parts.IsCountedGeneralName n.general_names.items
HasCountedElements (cases.IssuerAlternativeName n) = All parts.IsCountedGeneralName n.general_names.items
HasCountedElements (cases.NameConstraints c) = parts.HasCountedSubtrees c
HasCountedElements (cases.CRLDistributionPoints p) = All parts.IsCountedPoint p.points.items
HasCountedElements (cases.AuthorityInfoAccess a) = All parts.HasCountedLocation a.accessdescs.items
HasCountedElements (cases.SubjectInfoAccess a) = All parts.HasCountedLocation a.accessdescs.items
HasCountedElements (cases.IssuingDistributionPoint p) = parts.IsCountedIssuingPoint p
HasCountedElements p = Unit {0}
