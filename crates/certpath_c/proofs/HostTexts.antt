-- The text of a host is ASCII.
use Rattle.std.specs.Prelude.{IsAscii, IsUtf8, if◌then◌else◌, ◌==◌, ◌||◌, ◌&&◌, length}
use Rattle.std.proofs.Common.{◌≡◌, refl, sym, subst, ℕ, suc, ◌<◌, Bool, true, false, List, [], ◌∷◌, ◌++◌, decimal, codes, Option, Some, None, inl, inr, arith, lit<}
use Rattle.std.specs.Char.{digit_value}
use Rattle.std.specs.List.{list_any}
use Rattle.std.specs.Str.Parse.{AllDigits}
use Rattle.std.specs.Net.Grammar.{IsDotted, IsGroupsAfter, IsElided, IsColonHex, IsIpText}
use Rattle.std.specs.Net.Addr.{ipv6_segments, ipv4_octets}
use Rattle.std.specs.declared.net.ip_addr.IpAddr.{IpAddr}
use Rattle.std.specs.declared.net.ip_addr.IpAddr.TheVariants as Ip
use Rattle.std.proofs.lemmas.Bool.{false≢true, eqb-true, ltb-false}
use Rattle.std.proofs.lemmas.Bool.Decides.{nat_tests}
use Rattle.std.proofs.lemmas.Fmt.{IsAscii-decimal}
use Rattle.std.proofs.lemmas.Str.{IsAscii-append, IsUtf8-from_ascii}
use Rattle.std.proofs.lemmas.Str.Ascii.{IsAscii-nil, IsAscii-cons}
use Rattle.host_names.specs.declared.host.Host.{Host}
use Rattle.host_names.specs.declared.host.Host.TheVariants.{Name, Address}
use Rattle.host_names.specs.declared.refusal.Refusal.{Refusal}
use Rattle.host_names.specs.declared.refusal.Refusal.TheVariants.{Empty, Url, EmailAddress, Wildcard, Zone, Port, NoAddress, NotAscii}
use Rattle.host_names.specs.Addresses.{IsAddressText}
use Rattle.host_names.specs.Asked.{AsksFor}
use Rattle.host_names.specs.HostNames.{without_dot, has}
use Rattle.host_names.specs.Refusals.{has_port, is_far, refusal_of}
use Rattle.host_names.proofs.NoReason.{no_reason}

-- ---- addresses

digit_below : (c : ℕ) → digit_value c < 16 → c < 128
digit_below c h = grind (arith, nat_tests)

digits_ascii : (ds : List ℕ) → AllDigits 16 ds → IsAscii ds
digits_ascii [] h = IsAscii-nil
digits_ascii (c ∷ cs) h = IsAscii-cons c cs (digit_below c h.0) (digits_ascii cs h.1)

one_ascii : (x : ℕ) → x < 128 → IsAscii (x ∷ [])
one_ascii x small = IsAscii-cons x [] small IsAscii-nil

dotted_ascii : (text octets : List ℕ) → IsDotted text octets → IsAscii text
dotted_ascii text octets h =
    let dot : IsAscii (codes ".") = one_ascii 46 (lit< tt) in
    let a = IsAscii-decimal h.a (omega (arith, h.fit.0)) in
    let b = IsAscii-decimal h.b (omega (arith, h.fit.1)) in
    let c = IsAscii-decimal h.c (omega (arith, h.fit.2)) in
    let d = IsAscii-decimal h.d (omega (arith, h.fit.3)) in
    let ab = IsAscii-append _ (decimal h.b) (IsAscii-append (decimal h.a) (codes ".") a dot) b in
    let abc = IsAscii-append _ (decimal h.c) (IsAscii-append _ (codes ".") ab dot) c in
    let abcd = IsAscii-append _ (decimal h.d) (IsAscii-append _ (codes ".") abc dot) d in
    subst IsAscii (sym h.spelled) abcd

groups_ascii : (ipv4 : Bool) (lead text segments : List ℕ) → IsAscii lead → IsGroupsAfter ipv4 lead text segments → IsAscii text
groups_ascii ipv4 lead text [] ascii h = subst IsAscii (sym h) IsAscii-nil
groups_ascii ipv4 lead text (s ∷ segments) ascii (inl h) =
    let group = digits_ascii h.0 h.3.0.0.1 in
    let rest = groups_ascii ipv4 (codes ":") h.1 segments (one_ascii 58 (lit< tt)) h.4 in
    subst IsAscii (sym h.2) (IsAscii-append (lead ++ h.0) h.1 (IsAscii-append lead h.0 ascii group) rest)
groups_ascii ipv4 lead text (s ∷ segments) ascii (inr h) =
    subst IsAscii (sym h.3) (IsAscii-append lead h.0 ascii (dotted_ascii h.0 h.1 h.4))

elided_ascii : (text segments : List ℕ) → IsElided text segments → IsAscii text
elided_ascii text segments h =
    let colons : IsAscii (codes "::") = IsAscii-cons 58 (58 ∷ []) (lit< tt) (one_ascii 58 (lit< tt)) in
    let head = groups_ascii false [] h.head_text h.head IsAscii-nil h.head_groups in
    let tail = groups_ascii true [] h.tail_text h.tail IsAscii-nil h.tail_groups in
    subst IsAscii (sym h.spelled) (IsAscii-append (h.head_text ++ codes "::") h.tail_text (IsAscii-append h.head_text (codes "::") head colons) tail)

hex_ascii : (text segments : List ℕ) → IsColonHex text segments → IsAscii text
hex_ascii text segments (inl h) = groups_ascii true [] text segments IsAscii-nil h.0
hex_ascii text segments (inr h) = elided_ascii text segments h

ip_ascii : (text : List ℕ) (a : IpAddr) → IsIpText text a → IsAscii text
ip_ascii text (Ip.V4 a) h = dotted_ascii text (ipv4_octets a) h
ip_ascii text (Ip.V6 a) h = hex_ascii text (ipv6_segments a) h

address_ascii : (text : List ℕ) (a : IpAddr) → IsAddressText text a → IsAscii text
address_ascii text a (inl h) = ip_ascii text a h
address_ascii text a (inr h) =
    let inner = hex_ascii h.0 (ipv6_segments h.1) h.3 in
    subst IsAscii (sym h.2) (IsAscii-cons 91 (h.0 ++ 93 ∷ []) (lit< tt) (IsAscii-append h.0 (93 ∷ []) inner (one_ascii 93 (lit< tt))))

-- ---- names

-- a reason that doesn't apply, and those after it
others : (b : Bool) (reason : Refusal) (o : Option Refusal) → (if b then Some reason else o) ≡ None → o ≡ None
others true reason o e = absurd (let k : Some reason ≡ None = e in cc)
others false reason o e = e

first : (b : Bool) (reason : Refusal) (o : Option Refusal) → (if b then Some reason else o) ≡ None → b ≡ false
first true reason o e = absurd (let k : Some reason ≡ None = e in cc)
first false reason o e = refl

none_far : (host : List ℕ) → refusal_of host ≡ None → list_any is_far host ≡ false
none_far host e =
    let a = others (length host == 0) Empty _ e in
    let b = others (has 47 host) Url _ a in
    let c = others (has 64 host) EmailAddress _ b in
    let d = others (has 42 host) Wildcard _ c in
    let f = others (has 58 host && has 37 host) Zone _ d in
    let g = others (has_port host) Port _ f in
    let h = others (has 58 host || (has 91 host || has 93 host)) NoAddress _ g in
    first (list_any is_far host) NotAscii _ h

neither : (a b : Bool) → (a || b) ≡ false → (a ≡ false) × (b ≡ false)
neither true b e = absurd (false≢true (sym e))
neither false b e = (refl, e)

near_ascii : (xs : List ℕ) → list_any is_far xs ≡ false → IsAscii xs
near_ascii [] e = IsAscii-nil
near_ascii (x ∷ xs) e =
    let n = neither (is_far x) (list_any is_far xs) e in
    IsAscii-cons x xs (omega (arith, ltb-false 127 x n.0)) (near_ascii xs n.1)

last_ascii : (x : ℕ) (b : Bool) → x == 46 ≡ b → IsAscii (if b then [] else x ∷ []) → IsAscii (x ∷ [])
last_ascii x true e h = one_ascii x (omega (arith, eqb-true x 46 e))
last_ascii x false e h = h

with_dot : (text : List ℕ) → IsAscii (without_dot text) → IsAscii text
with_dot [] h = IsAscii-nil
with_dot (x ∷ []) h = last_ascii x (x == 46) refl h
with_dot (x ∷ y ∷ ys) h = IsAscii-cons x (y ∷ ys) (h 0) (with_dot (y ∷ ys) (λ i. h (suc i)))

-- ---- together

host_ascii : (text : List ℕ) (host : Host) → AsksFor text host → IsAscii text
host_ascii text (Address a) h = address_ascii text a h
host_ascii text (Name octets) h =
    with_dot text (subst IsAscii h.1 (near_ascii octets.now (none_far octets.now ((no_reason octets.now).1 h.2))))

pub host_utf8 : (text : List ℕ) (host : Host) → AsksFor text host → IsUtf8 text
host_utf8 text host h = IsUtf8-from_ascii text (host_ascii text host h)
