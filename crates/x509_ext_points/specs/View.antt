-- What the values of this crate's types are, as the data of `Values`.
use Rattle.std.specs.Prelude.{List, All, IfSome, option_map, map}
use Rattle.x509_ext_names.specs.x509_names.specs.View.{HasCountedValues, set_view}
use Rattle.x509_ext_names.specs.x509_ext_flags.specs.View.{reasons_view}
use Rattle.x509_ext_names.specs.View.{IsCountedGeneralName, general_name_view}
use Rattle.x509_ext_points.specs.Values as values
use Rattle.x509_ext_points.specs.declared.name.DistributionPointName.{DistributionPointName}
use Rattle.x509_ext_points.specs.declared.name.DistributionPointName.TheVariants as points
use Rattle.x509_ext_points.specs.declared.points.CRLDistributionPoint.{CRLDistributionPoint}
use Rattle.x509_ext_points.specs.declared.points.CRLDistributionPoints.{CRLDistributionPoints}
use Rattle.x509_ext_points.specs.declared.issuing.IssuingDistributionPoint.{IssuingDistributionPoint}

abbrev pub point_name_view : DistributionPointName → values.PointName
point_name_view (points.FullName v) = values.full_name (map general_name_view v.items)
point_name_view (points.NameRelativeToCRLIssuer set) = values.relative_name (set_view set)

-- the elements in a name have the lengths of their contents
abbrev pub IsCountedPointName : DistributionPointName → Type 0
IsCountedPointName (points.FullName v) = All IsCountedGeneralName v.items
IsCountedPointName (points.NameRelativeToCRLIssuer set) = HasCountedValues set

abbrev pub point_view : CRLDistributionPoint → values.DistributionPoint
point_view p = record {
  distribution_point = option_map point_name_view p.distribution_point;
  reasons = option_map reasons_view p.reasons;
  crl_issuer = option_map (λ v. map general_name_view v.items) p.crl_issuer;
}

-- so have those in each of its names
abbrev pub IsCountedPoint : CRLDistributionPoint → Type 0
IsCountedPoint p = IfSome p.distribution_point IsCountedPointName × IfSome p.crl_issuer (λ v. All IsCountedGeneralName v.items)

abbrev pub points_view : CRLDistributionPoints → List values.DistributionPoint
points_view p = map point_view p.points.items

abbrev pub issuing_point_view : IssuingDistributionPoint → values.IssuingDistributionPoint
issuing_point_view p = record {
  distribution_point = option_map point_name_view p.distribution_point;
  only_contains_user_certs = p.only_contains_user_certs;
  only_contains_ca_certs = p.only_contains_ca_certs;
  only_some_reasons = option_map reasons_view p.only_some_reasons;
  indirect_crl = p.indirect_crl;
  only_contains_attribute_certs = p.only_contains_attribute_certs;
}

-- so have those in its name
abbrev pub IsCountedIssuingPoint : IssuingDistributionPoint → Type 0
IsCountedIssuingPoint p = IfSome p.distribution_point IsCountedPointName
