-- Content octets of purposes and of names. Contracts of private functions cite it.
use Rattle.std.specs.Prelude.{◌≡◌, ℕ, List}
use Rattle.std.specs.List.{flat_map, AllByRecursion}
use Rattle.asn1_oid.specs.Identifier.{IsOidContent}
use Rattle.cert_model.specs.Fields.{Identifier}
use Rattle.cert_model.specs.Octets.{identifier_octets}
use Rattle.cert_serving.specs.GeneralNames.{GeneralName, IsGeneralName, general_name_octets}

abbrev pub ArePurposesIn : List ℕ → List Identifier → Type 0
ArePurposesIn content ps = AllByRecursion IsOidContent ps × (content ≡ flat_map identifier_octets ps)

abbrev pub AreNamesIn : List ℕ → List GeneralName → Type 0
AreNamesIn content gs = AllByRecursion IsGeneralName gs × (content ≡ flat_map general_name_octets gs)
