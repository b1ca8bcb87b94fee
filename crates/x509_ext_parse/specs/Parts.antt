-- What the parts of the values of extensions are, as the data of `Values`.
pub use Rattle.x509_ext_basic.specs.x509_ext_flags.specs.View.{key_identifier_view, reasons_view, policy_constraints_view}
pub use Rattle.x509_ext_points.specs.x509_ext_names.specs.View.{IsCountedGeneralName, IsCountedIdentifier, HasCountedSubtrees, HasCountedLocation, general_name_view, authority_key_view, subtree_view, name_constraints_view, access_view, authority_info_view, subject_info_view, subject_names_view, issuer_names_view}
pub use Rattle.x509_ext_basic.specs.View.{basic_constraints_view}
pub use Rattle.x509_ext_points.specs.View.{IsCountedPoint, IsCountedIssuingPoint, point_name_view, point_view, points_view, issuing_point_view}
pub use Rattle.x509_ext_points.specs.x509_ext_policies.specs.View.{qualifier_view, policy_view, mapping_view, mappings_view, purposes_view}
pub use Rattle.x509_ext_sct.specs.View.{signed_view, timestamp_view}
