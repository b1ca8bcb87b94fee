-- Hosts as they are asked for: a name, or the octets of an address.
use Rattle.std.specs.Prelude.{◌≡◌, ℕ, List}
use Rattle.host_names.specs.declared.host.Host.{Host}
use Rattle.host_names.specs.declared.host.Host.TheVariants.{Name, Address}
use Rattle.host_names.specs.Addresses.{address_octets, IsAddressText, IsNoAddress}
use Rattle.host_names.specs.HostNames.{without_dot, IsHostName}

-- a name by its octets, without a final dot, or an address by its 4 or 16 octets
pub data Asked : Type 0 where
  name : List ℕ → Asked
  address : List ℕ → Asked

abbrev pub host_view : Host → Asked
host_view (Name octets) = name octets.now
host_view (Address a) = address (address_octets a)

-- what a text asks for: an address, or else the name of a host
abbrev pub AsksFor : List ℕ → Host → Type 0
AsksFor text (Address a) = IsAddressText text a
AsksFor text (Name octets) = IsNoAddress text × (octets.now ≡ without_dot text) × IsHostName octets.now
