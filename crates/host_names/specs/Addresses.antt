-- Texts that write addresses.
use Rattle.std.specs.Prelude.{◌≡◌, ◌⊎◌, ℕ, List, [], ◌∷◌, ◌++◌}
use Rattle.std.specs.Net.Addr.{ipv4_octets, ipv6_octets}
use Rattle.std.specs.Net.Grammar.{IsIpText, IsIpv6Text}
use Rattle.std.specs.declared.net.ip_addr.IpAddr.{IpAddr}
use Rattle.std.specs.declared.net.ip_addr.IpAddr.TheVariants.{V4, V6}
use Rattle.std.specs.declared.net.ipv6_addr.Ipv6Addr.{Ipv6Addr}

-- the 4 or 16 octets of an address
abbrev pub address_octets : IpAddr → List ℕ
address_octets (V4 a) = ipv4_octets a
address_octets (V6 a) = ipv6_octets a

-- the text writes this address; one of IPv6 may be in brackets
abbrev pub IsAddressText : List ℕ → IpAddr → Type 0
IsAddressText text a = IsIpText text a ⊎ ((inner : List ℕ) × (v : Ipv6Addr) × (text ≡ 91 ∷ (inner ++ 93 ∷ [])) × IsIpv6Text inner v × (a ≡ V6 v))

abbrev pub IsNoAddress : List ℕ → Type 0
IsNoAddress text = (a : IpAddr) → IsAddressText text a → ⊥
