-- Flags are the bits that they are made of, and these alone.
use Rattle.std.proofs.Common.{◌≡◌, ◌∙◌, refl, sym, ap, subst, ℕ, zero, suc, ◌+◌, ◌*◌, ◌/◌, ◌%◌, ◌^◌, ◌<◌, ◌==◌, Bool, true, false, List, arith, Ok}
use Rattle.std.specs.Result.{result_ok}
use Rattle.std.proofs.lemmas.Bool.Decides.{nat_tests}
use Rattle.asn1_core.proofs.Cases.{chosen}
use Rattle.asn1_values.specs.Bits.{bit_at}
use Rattle.asn1_values.specs.Readers.{check_bits}
use Rattle.asn1_values.specs.ReaderLaws.{check_bits_is}
use Rattle.x509_core.specs.Answers.{plain}
use Rattle.x509_core.proofs.Grammars.{two}
use Rattle.x509_core.proofs.LeafLaws.{was_plain, equal_tags, tags_equal}
use Rattle.x509_ext_flags.specs.Flags.{bit_of, AreFlags, FlagsMean, AreEight}
use Rattle.x509_ext_flags.specs.Reading.{digit, weight, behind_first, flags_in, one_octet}
use Rattle.std.proofs.Math.Nat.{div-div-eq-div-mul, pow-suc, mul_comm, div-one}
use Rattle.std.proofs.Common.{length, inl, inr, ◌-◌, ◌≤◌}
use Rattle.std.proofs.Math.Pow.{pow_mono}

bit_up : (a i : ℕ) → bit_of (a / 2) i ≡ bit_of a (suc i)
bit_up a i = ap (λ n. n % 2 == 1) (div-div-eq-div-mul a 2 (2 ^ i) ∙ ap (λ n. a / n) (mul_comm 2 (2 ^ i) ∙ sym (pow-suc 2 i)))

lowest : (a b : ℕ) → bit_of a 0 ≡ bit_of b 0 → a % 2 ≡ b % 2
lowest a b e = grind (arith, nat_tests, e, div-one a, div-one b)

-- the bits make the number
pub same_bits : (w a b : ℕ) → a < 2 ^ w → b < 2 ^ w → ((i : ℕ) → i < w → bit_of a i ≡ bit_of b i) → a ≡ b
same_bits zero a b left right each = omega (arith, left, right)
same_bits (suc w) a b left right each =
    let low = lowest a b (each 0 (omega arith)) in
    let less : a / 2 < 2 ^ w = omega (arith, left, pow-suc 2 w) in
    let fewer : b / 2 < 2 ^ w = omega (arith, right, pow-suc 2 w) in
    let high = same_bits w (a / 2) (b / 2) less fewer (λ i k. bit_up a i ∙ each (suc i) (omega (arith, k)) ∙ sym (bit_up b i)) in
    omega (arith, low, high)

pub digit_small : (b : Bool) → digit b < 2
digit_small true = omega arith
digit_small false = omega arith

pub weight_below : (n at : ℕ) (octets : List ℕ) → weight n at octets < 2 ^ n
unfolding weight
weight_below zero at octets = omega arith
weight_below (suc n) at octets =
    let more = weight_below n (suc at) octets in
    omega (arith, more, digit_small (bit_at octets at), pow-suc 2 n)

low_bit : (b : Bool) (w : ℕ) → bit_of (digit b + 2 * w) 0 ≡ b
low_bit true w = grind (arith, nat_tests, div-one (1 + 2 * w))
low_bit false w = grind (arith, nat_tests, div-one (0 + 2 * w))

half : (b : Bool) (w : ℕ) → (digit b + 2 * w) / 2 ≡ w
half true w = omega arith
half false w = omega arith

pub weight_bits : (n at : ℕ) (octets : List ℕ) (i : ℕ) → i < n → bit_of (weight n at octets) i ≡ bit_at octets (at + i)
unfolding weight
weight_bits zero at octets i less = absurd (omega (arith, less))
weight_bits (suc n) at octets zero less = low_bit (bit_at octets at) (weight n (suc at) octets) ∙ ap (bit_at octets) (omega arith)
weight_bits (suc n) at octets (suc i) less =
    let w = weight n (suc at) octets in
    sym (bit_up (digit (bit_at octets at) + 2 * w) i) ∙ ap (λ z. bit_of z i) (half (bit_at octets at) w)
    ∙ weight_bits n (suc at) octets i (omega (arith, less)) ∙ ap (bit_at octets) (omega arith)

pub weight_is : (n : ℕ) (octets : List ℕ) → AreFlags n octets (weight n 0 octets)
weight_is n octets = record { below = weight_below n 0 octets; each = λ i less. weight_bits n 0 octets i less ∙ ap (bit_at octets) (omega arith) }

-- ---- contents

pub flags_found : (n : ℕ) (c : List ℕ) (v : ℕ) → flags_in n c ≡ Ok v → FlagsMean n c v
flags_found n c v given =
    let first = two (plain (result_ok (check_bits c))) _ v given in
    let strict = (check_bits_is c).0 (was_plain (check_bits c) tt first.1) in
    let same : weight n 0 (behind_first c) ≡ v = cc in
    let octets : behind_first c ≡ strict.octets = ap behind_first strict.whole in
    record { unused = strict.unused; octets = strict.octets; whole = strict.whole; strict = strict.strict; bits = subst (AreFlags n strict.octets) (ap (weight n 0) (sym octets) ∙ same) (weight_is n strict.octets) }

pub flags_only : (n : ℕ) (c : List ℕ) (v : ℕ) → FlagsMean n c v → flags_in n c ≡ Ok v
flags_only n c v is =
    let strict = (check_bits_is c).1 (record { unused = is.unused; octets = is.octets; whole = is.whole; strict = is.strict }) in
    let made = weight_is n is.octets in
    let same = same_bits n (weight n 0 is.octets) v made.below is.bits.below (λ i less. made.each i less ∙ sym (is.bits.each i less)) in
    let octets : behind_first c ≡ is.octets = ap behind_first is.whole in
    rw (strict) (ap (λ z. Ok (weight n 0 z)) octets ∙ ap (λ z. Ok z) same)

pub one_found : (c : List ℕ) (v : ℕ) → one_octet c ≡ Ok v → AreEight c v
one_found c v given =
    elim (chosen (length c == 2) _ _ _ given) [
      | inl is ↦ record { bits = flags_found 8 c v is.1; one = equal_tags (length c) 2 is.0 }
      | inr other ↦ let impossible = other.1 in cc
    ]

pub one_only : (c : List ℕ) (v : ℕ) → AreEight c v → one_octet c ≡ Ok v
one_only c v is = rw (tags_equal (length c) 2 is.one) (flags_only 8 c v is.bits)

-- ---- one bit more in front

pub weight_small : (n at : ℕ) (octets : List ℕ) → n ≤ 15 → weight n at octets < 32_768
weight_small n at octets few =
    let less = weight_below n at octets in
    let most : 2 ^ n ≤ 2 ^ 15 = pow_mono few in
    omega (arith, less, most)

pub weight_more : (width at : ℕ) (octets : List ℕ) → 0 < at → at ≤ width → 2 * weight (width - at) at octets + digit (bit_at octets (at - 1)) ≡ weight (width - (at - 1)) (at - 1) octets
unfolding weight
weight_more width zero octets some within = absurd (omega (arith, some))
weight_more width (suc at) octets some within =
    let n : width - at ≡ suc (width - suc at) = omega (arith, within) in
    let back : suc at - 1 ≡ at = omega arith in
    let step : weight (suc (width - suc at)) at octets ≡ digit (bit_at octets at) + 2 * weight (width - suc at) (suc at) octets = refl in
    rw (back, n, step) (omega arith)

pub weight_none : (at : ℕ) (octets : List ℕ) → 0 ≡ weight 0 at octets
unfolding weight
weight_none at octets = refl
