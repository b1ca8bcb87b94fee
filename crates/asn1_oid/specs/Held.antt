-- What an `Oid` holds.
use Rattle.std.specs.Prelude.{ℕ, List}
use Rattle.asn1_oid.specs.declared.identifier.Octets.{Octets}
use Rattle.asn1_oid.specs.declared.identifier.Octets.TheVariants.{Borrowed, Owned}

abbrev pub octets_of : Octets → List ℕ
octets_of (Borrowed octets) = octets.now
octets_of (Owned octets) = octets.items
