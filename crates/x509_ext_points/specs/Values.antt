-- What the values of this crate's types stand for. Flags are numbers.
use Rattle.std.specs.Prelude.{ℕ, Bool, List, Option}
use Rattle.x509_ext_names.specs.x509_names.specs.Fields.{Attribute}
use Rattle.x509_ext_names.specs.Values.{GeneralName}

-- DistributionPointName, DistributionPoint (RFC 5280, 4.2.1.13)
pub data PointName : Type 0 where
  full_name : List GeneralName → PointName
  relative_name : List Attribute → PointName

pub record DistributionPoint : Type 0 where
  pub distribution_point : Option PointName
  pub reasons : Option ℕ
  pub crl_issuer : Option (List GeneralName)

-- IssuingDistributionPoint (RFC 5280, 5.2.5)
pub record IssuingDistributionPoint : Type 0 where
  pub distribution_point : Option PointName
  pub only_contains_user_certs : Bool
  pub only_contains_ca_certs : Bool
  pub only_some_reasons : Option ℕ
  pub indirect_crl : Bool
  pub only_contains_attribute_certs : Bool
