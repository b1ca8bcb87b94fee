-- A text asks for one host.
use Rattle.std.proofs.Common.{◌≡◌, ◌∙◌, refl, sym, ap, subst, ℕ, List, [], ◌∷◌, ◌++◌, Option, Some, None, option_map, inl, inr, lit≤}
use Rattle.std.specs.Net.Reader.{read_ipv4, read_ipv6, read_octet, read_segment, read_segments, read_number}
use Rattle.std.specs.Net.Grammar.{IsIpText, IsIpv6Text}
use Rattle.std.specs.declared.net.ip_addr.IpAddr.{IpAddr}
use Rattle.std.specs.declared.net.ip_addr.IpAddr.TheVariants as Ip
use Rattle.std.proofs.NetLemmas.Ipv4.{read_ipv4_complete}
use Rattle.std.proofs.NetLemmas.Ipv6.{read_ipv6_complete, EndsGroups-nil}
use Rattle.std.proofs.NetLemmas.Theorems.{IsIpText_unique, IsIpv6Text_unique}
use Rattle.std.proofs.lemmas.List.{append_cancel_right}
use Rattle.host_names.specs.declared.host.Host.{Host}
use Rattle.host_names.specs.declared.host.Host.TheVariants.{Name, Address}
use Rattle.host_names.specs.Addresses.{IsAddressText, address_octets}
use Rattle.host_names.specs.Asked.{Asked, host_view, AsksFor}
use Rattle.host_names.specs.declared.refusal.Refusal.{Refusal}
use Rattle.host_names.specs.Refusals.{IsRefusedFor, refusal_of}
use Rattle.host_names.proofs.NoReason.{no_reason}
use Rattle.certpath_c.specs.Wanted.{IsHostIn, IsNoHost}

no_v4 : (rest : List ℕ) → read_ipv4 (91 ∷ rest) ≡ None
unfolding read_ipv4 read_octet read_number
no_v4 rest = refl

no_v6 : (rest : List ℕ) → read_ipv6 (91 ∷ rest) ≡ None
unfolding read_ipv6 read_segments read_segment read_ipv4 read_octet read_number
no_v6 rest = refl

-- an opening bracket begins no address
no_ip : (rest : List ℕ) (a : IpAddr) → IsIpText (91 ∷ rest) a → ⊥
no_ip rest (Ip.V4 a) h = let e = sym (no_v4 (rest ++ [])) ∙ read_ipv4_complete (91 ∷ rest) _ [] h (lit≤ tt) in cc
no_ip rest (Ip.V6 a) h = let e = sym (no_v6 (rest ++ [])) ∙ read_ipv6_complete (91 ∷ rest) _ [] h EndsGroups-nil in cc

tail_of : List ℕ → List ℕ
tail_of [] = []
tail_of (x ∷ xs) = xs

one_address : (text : List ℕ) (a b : IpAddr) → IsAddressText text a → IsAddressText text b → a ≡ b
unfolding tail_of
one_address text a b (inl h) (inl k) = IsIpText_unique text a b h k
one_address text a b (inl h) (inr k) = absurd (no_ip (k.0 ++ 93 ∷ []) a (subst (λ t. IsIpText t a) k.2 h))
one_address text a b (inr h) (inl k) = absurd (no_ip (h.0 ++ 93 ∷ []) b (subst (λ t. IsIpText t b) h.2 k))
one_address text a b (inr h) (inr k) =
    let inner : h.0 ≡ k.0 = append_cancel_right h.0 k.0 (93 ∷ []) (ap tail_of (sym h.2 ∙ k.2)) in
    let same = IsIpv6Text_unique k.0 h.1 k.1 (subst (λ t. IsIpv6Text t h.1) inner h.3) k.3 in
    h.4 ∙ ap Ip.V6 same ∙ sym k.4

one_asked : (text : List ℕ) (h k : Host) → AsksFor text h → AsksFor text k → host_view h ≡ host_view k
one_asked text (Name o) (Name p) h k = ap Asked.name (h.1 ∙ sym k.1)
one_asked text (Name o) (Address b) h k = absurd (h.0 b k)
one_asked text (Address a) (Name p) h k = absurd (k.0 a h)
one_asked text (Address a) (Address b) h k = ap (λ c. Asked.address (address_octets c)) (one_address text a b h k)

pub one_host : (text : List ℕ) (h k : Option Host) → IsHostIn text h → IsHostIn text k → option_map host_view h ≡ option_map host_view k
one_host text None None h k = refl
one_host text None (Some b) h k = absurd (k.0 h)
one_host text (Some a) None h k = absurd (h.0 k)
one_host text (Some a) (Some b) h k = ap Some (one_asked text a b h.1 k.1)

-- a text that asks for a host isn't refused
refused_host : (text : List ℕ) (reason : Refusal) (h : Host) → IsRefusedFor text reason → AsksFor text h → ⊥
refused_host text reason (Address a) refused asks = refused.0 a asks
refused_host text reason (Name o) refused asks =
    let none : refusal_of o.now ≡ None = (no_reason o.now).1 asks.2 in
    let some : refusal_of o.now ≡ Some reason = ap refusal_of asks.1 ∙ refused.1 in
    cc

pub no_host : (text : List ℕ) (h : Option Host) → IsNoHost text → IsHostIn text h → ⊥
no_host text None none is = none.0 is
no_host text (Some host) none is = refused_host text none.1.0 host none.1.1 is.1
