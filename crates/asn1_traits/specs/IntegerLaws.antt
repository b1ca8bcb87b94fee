-- What is written of an integer is shortest, and is read back.
use Rattle.std.proofs.Common.{arith, ◌≡◌, ◌≢◌, ◌∙◌, refl, sym, ap, ℕ, zero, suc, ℤ, pos, negsuc, ◌-◌, ◌+◌, ◌^◌, ◌<◌, ◌≤◌, nat_lt, Bool, true, false, if◌then◌else◌, List, [], ◌∷◌, get_or, lt-ltb, le-ltb}
use Rattle.std.specs.Int.Digits.{number_from_digits, digits_of, AllBelowBase}
use Rattle.std.proofs.lemmas.Int.Digits.{all_below_base_digits_of, first_digits_of, number_digits_of}
use Rattle.std.proofs.lemmas.Bool.{ltb-true, ltb-false}
use Rattle.asn1_traits.specs.Integers.{turned, twos_complement, IsShortest, with_sign_bit, integer_octets, SpellsInteger, size_of, IsUnsigned, IsSigned}

-- the content spells the value's number, which is one of the type
abbrev pub IntegerMeans : {V : Type 0} → (V → ℤ) → (ℤ → Type 0) → List ℕ → V → Type 0
IntegerMeans number InRange content v = SpellsInteger content (number v) × InRange (number v)

-- octets of a number that isn't negative: the first bit is 0
record IsPositive (xs : List ℕ) (n : ℕ) : Type 0 where
  some : xs ≢ []
  low : get_or xs 0 0 < 128
  below : AllBelowBase 256 xs
  shortest : IsShortest xs
  value : number_from_digits 256 xs ≡ n

signed_by : (b : Bool) (d : ℕ) (ds : List ℕ) → nat_lt d 128 ≡ b → 0 < d → AllBelowBase 256 (d ∷ ds) → IsPositive (if b then d ∷ ds else 0 ∷ d ∷ ds) (number_from_digits 256 (d ∷ ds))
signed_by true d [] e p below = record { some = λ h. cc; low = ltb-true d 128 e; below = below; shortest = tt; value = refl }
signed_by true d (x ∷ ds) e p below =
    let low : d < 128 = ltb-true d 128 e in
    record { some = λ h. cc; low = low; below = below; shortest = (λ h. omega (arith, p, h.0), λ h. omega (arith, low, h.0)); value = refl }
signed_by false d ds e p below =
    let high : 128 ≤ d = ltb-false d 128 e in
    record { some = λ h. cc; low = omega arith; below = (omega arith, below); shortest = (λ h. omega (arith, high, h.1), λ h. omega (arith, h.0)); value = refl }

signed : (ds : List ℕ) → AllBelowBase 256 ds → (ds ≢ [] → 0 < get_or ds 0 0) → IsPositive (with_sign_bit ds) (number_from_digits 256 ds)
signed [] below first = record { some = λ h. cc; low = omega arith; below = (omega arith, tt); shortest = tt; value = refl }
signed (d ∷ ds) below first = signed_by (nat_lt d 128) d ds refl (first (λ h. cc)) below

first_of : (n : ℕ) → digits_of 256 n ≢ [] → 0 < get_or (digits_of 256 n) 0 0
first_of zero some = absurd (some refl)
first_of (suc n) some = first_digits_of 256 (suc n) (omega arith) (omega arith)

signed_octets : (n : ℕ) → IsPositive (with_sign_bit (digits_of 256 n)) (number_from_digits 256 (digits_of 256 n))
signed_octets n = signed (digits_of 256 n) (all_below_base_digits_of 256 n (omega arith)) (first_of n)

turned_twice : (xs : List ℕ) → AllBelowBase 256 xs → turned (turned xs) ≡ xs
turned_twice [] below = refl
turned_twice (x ∷ xs) below =
    let same : 255 - (255 - x) ≡ x = omega (arith, below.0) in
    ap (λ z. z ∷ turned (turned xs)) same ∙ ap (λ z. x ∷ z) (turned_twice xs below.1)

turned_shortest : (xs : List ℕ) → AllBelowBase 256 xs → IsShortest xs → IsShortest (turned xs)
turned_shortest [] below s = s
turned_shortest (x ∷ []) below s = tt
turned_shortest (x ∷ y ∷ xs) below s =
    (λ h. s.1 (omega (arith, below.0, h.0), omega (arith, below.1.0, h.1)), λ h. s.0 (omega (arith, below.0, h.0), omega (arith, below.1.0, h.1)))

turned_some : (xs : List ℕ) → xs ≢ [] → turned xs ≢ []
turned_some [] some = some
turned_some (x ∷ xs) some = λ h. cc

low_value : (xs : List ℕ) → xs ≢ [] → get_or xs 0 0 < 128 → twos_complement xs ≡ pos (number_from_digits 256 xs)
unfolding twos_complement
low_value [] some low = absurd (some refl)
low_value (x ∷ xs) some low = let e : nat_lt x 128 ≡ true = lt-ltb x 128 low in rw e refl

turned_value : (xs : List ℕ) → xs ≢ [] → get_or xs 0 0 < 128 → AllBelowBase 256 xs → twos_complement (turned xs) ≡ negsuc (number_from_digits 256 xs)
unfolding twos_complement
turned_value [] some low below = absurd (some refl)
turned_value (x ∷ xs) some low below =
    let e : nat_lt (255 - x) 128 ≡ false = le-ltb (255 - x) 128 (omega (arith, low)) in
    rw e (ap (λ z. negsuc (number_from_digits 256 z)) (turned_twice (x ∷ xs) below))

pub octets_value : (z : ℤ) → twos_complement (integer_octets z) ≡ z
unfolding integer_octets
octets_value (pos n) = let s = signed_octets n in low_value (with_sign_bit (digits_of 256 n)) s.some s.low ∙ ap pos (s.value ∙ number_digits_of 256 n (omega arith))
octets_value (negsuc n) =
    let s = signed_octets n in turned_value (with_sign_bit (digits_of 256 n)) s.some s.low s.below ∙ ap negsuc (s.value ∙ number_digits_of 256 n (omega arith))

pub octets_some : (z : ℤ) → integer_octets z ≢ []
unfolding integer_octets
octets_some (pos n) = (signed_octets n).some
octets_some (negsuc n) = turned_some (with_sign_bit (digits_of 256 n)) (signed_octets n).some

pub octets_shortest : (z : ℤ) → IsShortest (integer_octets z)
unfolding integer_octets
octets_shortest (pos n) = (signed_octets n).shortest
octets_shortest (negsuc n) = let s = signed_octets n in turned_shortest (with_sign_bit (digits_of 256 n)) s.below s.shortest

pub integer_fits : {V : Type 0} (number : V → ℤ) (InRange : ℤ → Type 0) (v : V) → InRange (number v) → IsShortest (integer_octets (number v)) × IntegerMeans number InRange (integer_octets (number v)) v
integer_fits number InRange v form = (octets_shortest (number v), (record { some = octets_some (number v); value = octets_value (number v) }, form))

pub integer_same : {V : Type 0} (number : V → ℤ) (InRange : ℤ → Type 0) (v w : V) → InRange (number v) → IntegerMeans number InRange (integer_octets (number v)) w → integer_octets (number w) ≡ integer_octets (number v)
integer_same number InRange v w form read = ap integer_octets (sym read.0.value ∙ octets_value (number v))

-- the numbers of an integer type take at most 128 bits
pub unsigned_small : (bits : ℕ) → 2 ^ bits ≤ 2 ^ 128 → (z : ℤ) → IsUnsigned bits z → size_of z < 2 ^ 128
unsigned_small bits p (pos n) h = omega (arith, p, h)
unsigned_small bits p (negsuc n) h = absurd h

pub signed_small : (bits : ℕ) → 2 ^ (bits - 1) ≤ 2 ^ 128 → (z : ℤ) → IsSigned bits z → size_of z < 2 ^ 128
signed_small bits p z h = omega (arith, p, h)
