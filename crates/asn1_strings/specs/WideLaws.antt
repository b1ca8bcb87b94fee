-- The octets of characters decide the characters.
use Rattle.std.proofs.Common.{arith, inl, inr, refl, ap, sym, ◌≡◌, ◌∙◌, ℕ, ◌+◌, ◌-◌, ◌/◌, ◌%◌, ◌^◌, ◌<◌, ◌≤◌, Bool, true, false, List, [], ◌∷◌, ◌++◌, length, length-append}
use Rattle.std.specs.Prelude.{◌⊎◌}
use Rattle.std.specs.List.{flat_map}
use Rattle.std.specs.Int.{to_be_bytes, w16}
use Rattle.std.specs.Char.Escape.{encode_utf16}
use Rattle.std.specs.Char.{IsScalar}
use Rattle.std.proofs.Math.Utf8.{scalar_cases}
use Rattle.std.proofs.lemmas.Bool.Decides.{leb_tells}
use Rattle.std.proofs.lemmas.Bool.{lt-ltb, le-ltb}
use Rattle.std.specs.Str.{IsUtf8, all_scalars, chars, encode_utf8_all}
use Rattle.std.proofs.lemmas.Bool.{and_parts}
use Rattle.std.proofs.lemmas.Str.{scalars-chars, encodes-chars}
use Rattle.asn1_strings.specs.Wide.{utf16_octets, utf32_octets, wide_octets}

from_tells : (c : ℕ) (b : Bool) → ((b ≡ true) × (0x1_0000 ≤ c)) ⊎ ((b ≡ false) × (c < 0x1_0000)) → (c < 0x1_0000) ⊎ (0x1_0000 ≤ c)
from_tells c b (inl h) = inr h.1
from_tells c b (inr h) = inl h.1

-- up to ffff hex, or above
pub size_of : (c : ℕ) → (c < 0x1_0000) ⊎ (0x1_0000 ≤ c)
size_of c = from_tells c _ (leb_tells 0x1_0000 c)

one_unit : (c : ℕ) → c < 0x1_0000 → encode_utf16 c ≡ c ∷ []
one_unit c below = rw (lt-ltb c 0x1_0000 below)

two_units : (c : ℕ) → 0x1_0000 ≤ c → encode_utf16 c ≡ (0xD800 + (c - 0x1_0000) / 0x400) ∷ (0xDC00 + (c - 0x1_0000) % 0x400) ∷ []
two_units c from = rw (le-ltb c 0x1_0000 from)

-- a unit's two octets, and what comes after them
abbrev pub unit : ℕ → List ℕ → List ℕ
unit u rest = u / 256 ∷ u % 256 ∷ rest

-- the pair of surrogates of a character above ffff hex
abbrev pub high : ℕ → ℕ
high c = 0xD800 + (c - 0x1_0000) / 0x400

abbrev pub low : ℕ → ℕ
low c = 0xDC00 + (c - 0x1_0000) % 0x400

pub octets_of_one : (c : ℕ) (rest : List ℕ) → c < 0x1_0000 → utf16_octets c ++ rest ≡ unit c rest
octets_of_one c rest below =
    let first : c / 256 % 256 ≡ c / 256 = omega arith in
    ap (λ us. flat_map (to_be_bytes w16) us ++ rest) (one_unit c below) ∙ ap (λ x. x ∷ c % 256 ∷ rest) first

pub octets_of_two : (c : ℕ) (rest : List ℕ) → 0x1_0000 ≤ c → c < 0x11_0000 → utf16_octets c ++ rest ≡ unit (high c) (unit (low c) rest)
octets_of_two c rest from below =
    let first : high c / 256 % 256 ≡ high c / 256 = omega arith in
    let third : low c / 256 % 256 ≡ low c / 256 = omega arith in
    ap (λ us. flat_map (to_be_bytes w16) us ++ rest) (two_units c from)
    ∙ ap (λ x. x ∷ high c % 256 ∷ low c / 256 % 256 ∷ low c % 256 ∷ rest) first ∙ ap (λ x. high c / 256 ∷ high c % 256 ∷ x ∷ low c % 256 ∷ rest) third

pub same_unit : (u v : ℕ) (r s : List ℕ) → unit u r ≡ unit v s → (u ≡ v) × (r ≡ s)
same_unit u v r s e =
    let first : u / 256 ≡ v / 256 = cc in
    let second : u % 256 ≡ v % 256 = cc in
    (omega arith, cc)

-- the octets of a character, by its size
abbrev pub Starts : List ℕ → ℕ → List ℕ → Type 0
Starts octets c rest = ((octets ≡ unit c rest) × (c < 0x1_0000)) ⊎ ((octets ≡ unit (high c) (unit (low c) rest)) × (0x1_0000 ≤ c) × (c < 0x11_0000))

starts_by : (octets rest : List ℕ) (c : ℕ) → IsScalar c → octets ≡ utf16_octets c ++ rest → (c < 0x1_0000) ⊎ (0x1_0000 ≤ c) → Starts octets c rest
starts_by octets rest c scalar e (inl below) = inl (e ∙ octets_of_one c rest below, below)
starts_by octets rest c scalar e (inr from) =
    let range = scalar_cases c scalar in
    let below : c < 0x11_0000 = omega arith in
    inr (e ∙ octets_of_two c rest from below, from, below)

pub starts : (octets rest : List ℕ) (c : ℕ) → IsScalar c → octets ≡ utf16_octets c ++ rest → Starts octets c rest
starts octets rest c scalar e = starts_by octets rest c scalar e (size_of c)

one_of : (octets r s : List ℕ) (c d : ℕ) → IsScalar c → IsScalar d → Starts octets c r → Starts octets d s → (c ≡ d) × (r ≡ s)
one_of octets r s c d p q (inl x) (inl y) = same_unit c d r s (sym x.0 ∙ y.0)
one_of octets r s c d p q (inl x) (inr y) =
    let range = scalar_cases c p in
    let same = same_unit c (high d) r (unit (low d) s) (sym x.0 ∙ y.0) in
    absurd (omega arith)
one_of octets r s c d p q (inr x) (inl y) =
    let range = scalar_cases d q in
    let same = same_unit (high c) d (unit (low c) r) s (sym x.0 ∙ y.0) in
    absurd (omega arith)
one_of octets r s c d p q (inr x) (inr y) =
    let highs = same_unit (high c) (high d) (unit (low c) r) (unit (low d) s) (sym x.0 ∙ y.0) in
    let lows = same_unit (low c) (low d) r s highs.1 in
    (omega arith, lows.1)

pub utf16_one : (c d : ℕ) (r s : List ℕ) → IsScalar c → IsScalar d → utf16_octets c ++ r ≡ utf16_octets d ++ s → (c ≡ d) × (r ≡ s)
utf16_one c d r s p q e = one_of (utf16_octets c ++ r) r s c d p q (starts (utf16_octets c ++ r) r c p refl) (starts (utf16_octets c ++ r) s d q e)

some_by : (c : ℕ) → (c < 0x1_0000) ⊎ (0x1_0000 ≤ c) → 0 < length (utf16_octets c)
some_by c (inl below) = let size = ap (λ us. length (flat_map (to_be_bytes w16) us)) (one_unit c below) in omega arith
some_by c (inr from) = let size = ap (λ us. length (flat_map (to_be_bytes w16) us)) (two_units c from) in omega arith

pub utf16_some : (c : ℕ) → 0 < length (utf16_octets c)
utf16_some c = some_by c (size_of c)

pub octets_of_four : (c : ℕ) (rest : List ℕ) → c < 2 ^ 32 → utf32_octets c ++ rest ≡ c / 0x100_0000 ∷ c / 0x1_0000 % 256 ∷ c / 256 % 256 ∷ c % 256 ∷ rest
octets_of_four c rest below =
    let first : c / 0x100_0000 % 256 ≡ c / 0x100_0000 = omega arith in
    ap (λ x. x ∷ c / 0x1_0000 % 256 ∷ c / 256 % 256 ∷ c % 256 ∷ rest) first

pub utf32_one : (c d : ℕ) (r s : List ℕ) → IsScalar c → IsScalar d → utf32_octets c ++ r ≡ utf32_octets d ++ s → (c ≡ d) × (r ≡ s)
utf32_one c d r s p q e =
    let left = scalar_cases c p in
    let right = scalar_cases d q in
    let below : c < 2 ^ 32 = omega arith in
    let under : d < 2 ^ 32 = omega arith in
    let same = sym (octets_of_four c r below) ∙ e ∙ octets_of_four d s under in
    let first : c / 0x100_0000 ≡ d / 0x100_0000 = cc in
    let second : c / 0x1_0000 % 256 ≡ d / 0x1_0000 % 256 = cc in
    let third : c / 256 % 256 ≡ d / 256 % 256 = cc in
    let fourth : c % 256 ≡ d % 256 = cc in
    (omega arith, cc)

pub utf32_some : (c : ℕ) → 0 < length (utf32_octets c)
utf32_some c = omega arith

-- characters have equal octets only if they are equal
pub same_chars : (f : ℕ → List ℕ) → ((c : ℕ) → 0 < length (f c)) → ((c d : ℕ) (r s : List ℕ) → IsScalar c → IsScalar d → f c ++ r ≡ f d ++ s → (c ≡ d) × (r ≡ s)) →
    (cs ds : List ℕ) → all_scalars cs ≡ true → all_scalars ds ≡ true → flat_map f cs ≡ flat_map f ds → cs ≡ ds
same_chars f some one [] [] p q e = refl
same_chars f some one [] (d ∷ ds) p q e = absurd (omega (arith, ap length e, some d, length-append (f d) (flat_map f ds)))
same_chars f some one (c ∷ cs) [] p q e = absurd (omega (arith, ap length e, some c, length-append (f c) (flat_map f cs)))
same_chars f some one (c ∷ cs) (d ∷ ds) p q e =
    let here = and_parts _ (all_scalars cs) p in
    let there = and_parts _ (all_scalars ds) q in
    let same = one c d (flat_map f cs) (flat_map f ds) here.0 there.0 e in
    let others = same_chars f some one cs ds here.1 there.1 same.1 in
    cc

pub same_text : (f : ℕ → List ℕ) → ((c : ℕ) → 0 < length (f c)) → ((c d : ℕ) (r s : List ℕ) → IsScalar c → IsScalar d → f c ++ r ≡ f d ++ s → (c ≡ d) × (r ≡ s)) →
    (text other : List ℕ) → IsUtf8 text → IsUtf8 other → wide_octets f text ≡ wide_octets f other → text ≡ other
same_text f some one text other p q e =
    let chars_same = same_chars f some one (chars text) (chars other) (scalars-chars text p) (scalars-chars other q) e in
    sym (encodes-chars text p) ∙ ap encode_utf8_all chars_same ∙ encodes-chars other q
