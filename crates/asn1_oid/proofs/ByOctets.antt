-- Strict content, octet by octet.
use Rattle.std.proofs.Common.{◌≡◌, ℕ, zero, suc, ◌-◌, ◌<◌, ◌≤◌, Bool, true, false, not, ◌||◌, List, [], ◌∷◌, length, get_or, refl, ap, arith, inl, inr}
use Rattle.std.specs.Prelude.{nat_lt, nat_le, ◌==◌}
use Rattle.std.proofs.lemmas.Bool.{cases_eq, lt-ltb, ltb-true, leb-true, leb-false, le-leb, lt-leb, eq-eqb, ne_eqb, and_parts, and_from, or_cases, or_left, or_right, not_from_false, not-true, both_ways}
use Rattle.std.specs.Int.Digits.{AllBelowBase}
use Rattle.asn1_oid.specs.Identifier.{IsOidContent, IsContentByOctets}
use Rattle.asn1_oid.specs.Reading.{is_strict_after}
use Rattle.asn1_oid.proofs.ReadWritten.{strict_is_content, content_is_strict}

-- ---- what strict octets are like

strict_head : (within : Bool) (octet : ℕ) (rest : List ℕ) → is_strict_after within (octet ∷ rest) ≡ true
    → ((within || not (octet == 128)) ≡ true) × (is_strict_after (nat_le 128 octet) rest ≡ true)
unfolding is_strict_after
strict_head within octet rest strict = and_parts (within || not (octet == 128)) _ strict

strict_ends : (within : Bool) (octets : List ℕ) (k : ℕ) → is_strict_after within octets ≡ true → suc k ≡ length octets → get_or octets k 0 < 128
unfolding is_strict_after
strict_ends within [] k strict last = absurd (omega arith)
strict_ends within (octet ∷ []) zero strict last = leb-false 128 octet (not-true (nat_le 128 octet) (strict_head within octet [] strict).1)
strict_ends within (octet ∷ next ∷ rest) zero strict last = absurd (omega arith)
strict_ends within (octet ∷ rest) (suc k) strict last =
    strict_ends (nat_le 128 octet) rest k (strict_head within octet rest strict).1 (omega arith)

strict_first : (within : Bool) (octets : List ℕ) → is_strict_after within octets ≡ true → get_or octets 0 0 ≡ 128 → within ≡ true
strict_first within [] strict is = absurd (omega arith)
strict_first within (octet ∷ rest) strict is = elim (or_cases within (not (octet == 128)) (strict_head within octet rest strict).0) [
  | inl inside ↦ inside
  | inr other ↦ absurd (both_ways (octet == 128) (not-true (octet == 128) other) (eq-eqb octet 128 is))
]

strict_later : (within : Bool) (octets : List ℕ) (k : ℕ) → is_strict_after within octets ≡ true → get_or octets (suc k) 0 ≡ 128
    → 128 ≤ get_or octets k 0
strict_later within [] k strict is = absurd (omega arith)
strict_later within (octet ∷ rest) zero strict is =
    leb-true 128 octet (strict_first (nat_le 128 octet) rest (strict_head within octet rest strict).1 is)
strict_later within (octet ∷ rest) (suc k) strict is =
    strict_later (nat_le 128 octet) rest k (strict_head within octet rest strict).1 is

strict_begins : (octets : List ℕ) (k : ℕ) → is_strict_after false octets ≡ true → get_or octets k 0 ≡ 128
    → (0 < k) × (128 ≤ get_or octets (k - 1) 0)
strict_begins octets zero strict is = let no = strict_first false octets strict is in absurd (cc)
strict_begins octets (suc k) strict is =
    let before : suc k - 1 ≡ k = omega arith in
    (omega arith, rw before (strict_later false octets k strict is))

pub content_by_octets : (octets : List ℕ) → IsOidContent octets → IsContentByOctets octets
content_by_octets octets is =
    let parts = and_parts (nat_lt 0 (length octets)) (is_strict_after false octets) (content_is_strict octets is) in
    let some = ltb-true 0 (length octets) parts.0 in
    record {
      some = some;
      ends = strict_ends false octets (length octets - 1) parts.1 (omega arith);
      begins = λ k within here. strict_begins octets k parts.1 here;
    }

-- ---- octets that are like it

strict_from : (within : Bool) (octets : List ℕ) → (octets ≡ [] → within ≡ false) → ((k : ℕ) → suc k ≡ length octets → get_or octets k 0 < 128)
    → (get_or octets 0 0 ≡ 128 → within ≡ true) → ((k : ℕ) → get_or octets (suc k) 0 ≡ 128 → 128 ≤ get_or octets k 0)
    → is_strict_after within octets ≡ true
unfolding is_strict_after
strict_from within [] ended ends first later = not_from_false within (ended refl)
strict_from within (octet ∷ rest) ended ends first later =
    let begins : (within || not (octet == 128)) ≡ true = elim (cases_eq octet 128) [
      | inl is ↦ or_left within _ (first is)
      | inr other ↦ or_right within _ (not_from_false (octet == 128) (ne_eqb octet 128 other))
    ] in
    and_from _ _ begins (strict_from (nat_le 128 octet) rest
    (λ (none : rest ≡ []). lt-leb 128 octet (ends 0 (omega (arith, ap length none))))
    (λ k last. ends (suc k) (omega arith))
    (λ (is : get_or rest 0 0 ≡ 128). le-leb 128 octet (later 0 is))
    (λ k is. later (suc k) is))

some_read : (octets : List ℕ) (k : ℕ) → get_or octets k 0 ≡ 128 → k < length octets
some_read [] k is = absurd (omega arith)
some_read (octet ∷ rest) zero is = omega arith
some_read (octet ∷ rest) (suc k) is = let more = some_read rest k is in omega arith

pub content_from_octets : (octets : List ℕ) → AllBelowBase 256 octets → IsContentByOctets octets → IsOidContent octets
content_from_octets octets below by =
    let strict = strict_from false octets (λ none. refl)
    (λ k last. let is : length octets - 1 ≡ k = omega arith in (rw is at by.ends))
    (λ (is : get_or octets 0 0 ≡ 128). let no = (by.begins 0 (some_read octets 0 is) is).0 in absurd (omega arith))
    (λ k is. let before : suc k - 1 ≡ k = omega arith in (rw before at (by.begins (suc k) (some_read octets (suc k) is) is).1)) in
    strict_is_content octets below (and_from _ _ (lt-ltb 0 (length octets) by.some) strict)
