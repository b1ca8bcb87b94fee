-- That the functions of `Readers` find what contents mean, and nothing else.
use Rattle.std.proofs.Common.{◌≡◌, ◌≢◌, ◌∙◌, ◌↔◌, sym, ap, refl, subst, arith, ◌<◌, ◌≤◌, ◌-◌, ◌^◌, ◌==◌, not, ℕ, ℤ, pos, negsuc, Bool, true, false, nat_lt, if◌then◌else◌, Result, Ok, Err, List, [], ◌∷◌, length}
use Rattle.std.proofs.lemmas.Bool.{lt-ltb, le-ltb, ltb-true, ltb-false, eqb-true, eq-eqb, ne_eqb}
use Rattle.std.proofs.lemmas.List.{nil_from_length}
use Rattle.asn1_core.specs.declared.error.Error.{Error}
use Rattle.asn1_core.specs.declared.error.Error.TheVariants as errors
use Rattle.asn1_core.specs.declared.error.DerConstraint.TheVariants as constraints
use Rattle.asn1_traits.specs.Integers.{twos_complement, SpellsInteger, size_of, IsSigned}
use Rattle.asn1_values.specs.Bits.{BitsMean, AreBits, AreUnusedZero, IsStrictBitContent}
use Rattle.asn1_values.specs.Contents.{HoldsSome}
use Rattle.asn1_values.specs.Numbers.{IsNegative}
use Rattle.asn1_values.specs.Readers.{◌>>=◌, bits_at, zero_unused, check_bits, some_octets, number_at, not_negative, natural_at, unsigned_in, signed_in, unsigned_at, signed_at}

-- both steps of a reader that returns a value
two : {A B : Type 0} (r : Result A Error) (f : A → Result B Error) (y : B) → (r >>= f) ≡ Ok y → (x : A) × (r ≡ Ok x) × (f x ≡ Ok y)
two (Ok x) f y e = (x, refl, e)
two (Err x) f y e = cc

if_ok : {A : Type 0} (b : Bool) (x y : A) (e : Error) → (if b then Ok x else Err e) ≡ Ok y → (b ≡ true) × (x ≡ y)
if_ok true x y e is = (refl, cc)
if_ok false x y e is = cc

same_ok : {A : Type 0} (x y : A) → ◌≡◌ {A = Result A Error} (Ok x) (Ok y) → x ≡ y
same_ok x y e = cc

-- bits

no_nil : (x : ℕ) (xs : List ℕ) → x ∷ xs ≡ [] → ⊥
no_nil x xs e = cc

bits_found : (content : List ℕ) (unused : ℕ) (octets : List ℕ) → bits_at content ≡ Ok (unused, octets) → BitsMean content unused octets
unfolding bits_at
bits_found [] unused octets e = cc
bits_found (n ∷ []) unused octets e = by (nat_lt n 8) refl
  where
    by : (b : Bool) → nat_lt n 8 ≡ b → BitsMean (n ∷ []) unused octets
    by true few =
        let inner = rw few at e in
        let both = if_ok (n == 0) (n, []) (unused, octets) errors.InvalidLength inner in
        let count : n ≡ unused = ap (λ (z : ℕ × List ℕ). z.0) both.1 in
        let rest : [] ≡ octets = ap (λ (z : ℕ × List ℕ). z.1) both.1 in
        let none : unused ≡ 0 = sym count ∙ eqb-true n 0 both.0 in
        record { whole = ap (λ m. m ∷ []) count ∙ ap (λ s. unused ∷ s) rest; bits = record { few = omega arith; none = λ _. none } }
    by false few = let never = rw few at e in cc
bits_found (n ∷ x ∷ xs) unused octets e = by (nat_lt n 8) refl
  where
    by : (b : Bool) → nat_lt n 8 ≡ b → BitsMean (n ∷ x ∷ xs) unused octets
    by true few =
        let inner = rw few at e in
        let both = same_ok (n, x ∷ xs) (unused, octets) inner in
        let count : n ≡ unused = ap (λ (z : ℕ × List ℕ). z.0) both in
        let rest : x ∷ xs ≡ octets = ap (λ (z : ℕ × List ℕ). z.1) both in
        let below : n < 8 = ltb-true n 8 few in
        record { whole = ap (λ m. m ∷ x ∷ xs) count ∙ ap (λ s. unused ∷ s) rest; bits = record { few = omega arith; none = λ e. absurd (no_nil x xs (rest ∙ e)) } }
    by false few = let never = rw few at e in cc

bits_only : (content : List ℕ) (unused : ℕ) (octets : List ℕ) → BitsMean content unused octets → bits_at content ≡ Ok (unused, octets)
unfolding bits_at
bits_only content unused octets p = ap bits_at p.whole ∙ by octets p.bits
  where
    by : (octets : List ℕ) → AreBits unused octets → bits_at (unused ∷ octets) ≡ Ok (unused, octets)
    by [] bits = let few = lt-ltb unused 8 bits.few in let none = eq-eqb unused 0 (bits.none refl) in rw (few, none) refl
    by (x ∷ xs) bits = let few = lt-ltb unused 8 bits.few in rw few refl

pub bits_is : (content : List ℕ) (unused : ℕ) (octets : List ℕ) → (bits_at content ≡ Ok (unused, octets)) ↔ BitsMean content unused octets
bits_is content unused octets = (bits_found content unused octets, bits_only content unused octets)

check_found : (content : List ℕ) → check_bits content ≡ Ok tt → IsStrictBitContent content
unfolding check_bits
check_found content e =
    let both = two (bits_at content) zero_unused tt e in
    let bits = bits_found content both.0.0 both.0.1 both.1 in
    let zero = if_ok _ tt tt _ both.2 in
    record { unused = both.0.0; octets = both.0.1; whole = bits.whole; strict = record { bits = bits.bits; zero = eqb-true _ 0 zero.0 } }

check_only : (content : List ℕ) → IsStrictBitContent content → check_bits content ≡ Ok tt
unfolding check_bits
check_only content p =
    let read = bits_only content p.unused p.octets (record { whole = p.whole; bits = p.strict.bits }) in
    let zero = eq-eqb _ 0 p.strict.zero in
    rw (read, zero) refl

pub check_bits_is : (content : List ℕ) → (check_bits content ≡ Ok tt) ↔ IsStrictBitContent content
check_bits_is content = (check_found content, check_only content)

-- integers

some_found : (content held : List ℕ) → some_octets content ≡ Ok held → HoldsSome content held
unfolding some_octets
some_found [] held e = cc
some_found (x ∷ xs) held e = (λ e. cc, sym (same_ok (x ∷ xs) held e))

some_only : (content held : List ℕ) → HoldsSome content held → some_octets content ≡ Ok held
unfolding some_octets
some_only [] held p = absurd (p.0 refl)
some_only (x ∷ xs) held p = ap Ok (sym p.1)

pub some_is : (content held : List ℕ) → (some_octets content ≡ Ok held) ↔ HoldsSome content held
some_is content held = (some_found content held, some_only content held)

integer_found : (content : List ℕ) (z : ℤ) → number_at content ≡ Ok z → SpellsInteger content z
unfolding number_at
integer_found content z e =
    let both = two (some_octets content) (λ octets. Ok (twos_complement octets)) z e in
    let held = some_found content both.0 both.1 in
    record { some = held.0; value = ap twos_complement (sym held.1) ∙ same_ok _ z both.2 }

integer_only : (content : List ℕ) (z : ℤ) → SpellsInteger content z → number_at content ≡ Ok z
unfolding number_at
integer_only content z p = let read = some_only content content (p.some, refl) in rw read (ap Ok p.value)

pub integer_is : (content : List ℕ) (z : ℤ) → (number_at content ≡ Ok z) ↔ SpellsInteger content z
integer_is content z = (integer_found content z, integer_only content z)

natural_told : (z : ℤ) (n : ℕ) → not_negative z ≡ Ok n → z ≡ pos n
natural_told (pos m) n e = ap pos (same_ok m n e)
natural_told (negsuc m) n e = cc

natural_found : (content : List ℕ) (n : ℕ) → natural_at content ≡ Ok n → SpellsInteger content (pos n)
unfolding natural_at
natural_found content n e =
    let both = two (number_at content) not_negative n e in
    subst (SpellsInteger content) (natural_told both.0 n both.2) (integer_found content both.0 both.1)

natural_only : (content : List ℕ) (n : ℕ) → SpellsInteger content (pos n) → natural_at content ≡ Ok n
unfolding natural_at
natural_only content n p = let read = integer_only content (pos n) p in rw read refl

pub natural_is : (content : List ℕ) (n : ℕ) → (natural_at content ≡ Ok n) ↔ SpellsInteger content (pos n)
natural_is content n = (natural_found content n, natural_only content n)

-- a number without a sign is one of so many bits
pub unsigned_found : (bits : ℕ) (content : List ℕ) (n : ℕ) → unsigned_at bits content ≡ Ok n → SpellsInteger content (pos n) × (n < 2 ^ bits)
unfolding unsigned_at
unsigned_found bits content n e =
    let both = two (natural_at content) (unsigned_in bits) n e in
    let test = if_ok (nat_lt both.0 (2 ^ bits)) both.0 n errors.IntegerTooLarge both.2 in
    let below = ltb-true both.0 (2 ^ bits) test.0 in
    (natural_found content n (both.1 ∙ ap Ok test.1), subst (λ k. k < 2 ^ bits) test.1 below)

pub unsigned_only : (bits : ℕ) (content : List ℕ) (n : ℕ) → SpellsInteger content (pos n) → n < 2 ^ bits → unsigned_at bits content ≡ Ok n
unfolding unsigned_at
unsigned_only bits content n p small =
    let read = natural_only content n p in
    let test = lt-ltb n (2 ^ bits) small in
    rw (read, test) refl

pub unsigned_is : (bits : ℕ) (content : List ℕ) (n : ℕ) → (unsigned_at bits content ≡ Ok n) ↔ (SpellsInteger content (pos n) × (n < 2 ^ bits))
unsigned_is bits content n = (unsigned_found bits content n, λ p. unsigned_only bits content n p.0 p.1)

pub signed_found : (bits : ℕ) (content : List ℕ) (z : ℤ) → signed_at bits content ≡ Ok z → SpellsInteger content z × IsSigned bits z
unfolding signed_at
signed_found bits content z e =
    let both = two (number_at content) (signed_in bits) z e in
    let test = if_ok (nat_lt (size_of both.0) (2 ^ (bits - 1))) both.0 z errors.IntegerTooLarge both.2 in
    let below = ltb-true (size_of both.0) (2 ^ (bits - 1)) test.0 in
    (integer_found content z (both.1 ∙ ap Ok test.1), subst (IsSigned bits) test.1 below)

pub signed_only : (bits : ℕ) (content : List ℕ) (z : ℤ) → SpellsInteger content z → IsSigned bits z → signed_at bits content ≡ Ok z
unfolding signed_at
signed_only bits content z p small =
    let read = integer_only content z p in
    let test = lt-ltb (size_of z) (2 ^ (bits - 1)) small in
    rw (read, test) refl

pub signed_is : (bits : ℕ) (content : List ℕ) (z : ℤ) → (signed_at bits content ≡ Ok z) ↔ (SpellsInteger content z × IsSigned bits z)
signed_is bits content z = (signed_found bits content z, λ p. signed_only bits content z p.0 p.1)

-- errors

pub natural_empty : natural_at [] ≡ Err errors.InvalidLength
unfolding natural_at number_at some_octets
natural_empty = refl

pub signed_empty : (bits : ℕ) → signed_at bits [] ≡ Err errors.InvalidLength
unfolding signed_at number_at some_octets
signed_empty bits = refl

pub natural_negative : (content : List ℕ) (n : ℕ) → SpellsInteger content (negsuc n) → natural_at content ≡ Err errors.IntegerNegative
unfolding natural_at
natural_negative content n p = let read = integer_only content (negsuc n) p in rw read refl

pub unsigned_refused : (bits : ℕ) (content : List ℕ) (e : Error) → natural_at content ≡ Err e → unsigned_at bits content ≡ Err e
unfolding unsigned_at
unsigned_refused bits content e is = rw is refl

pub unsigned_large : (bits : ℕ) (content : List ℕ) (n : ℕ) → natural_at content ≡ Ok n → 2 ^ bits ≤ n → unsigned_at bits content ≡ Err errors.IntegerTooLarge
unfolding unsigned_at
unsigned_large bits content n is large = let test = le-ltb n (2 ^ bits) large in rw (is, test) refl

pub signed_large : (bits : ℕ) (content : List ℕ) (z : ℤ) → SpellsInteger content z → 2 ^ (bits - 1) ≤ size_of z → signed_at bits content ≡ Err errors.IntegerTooLarge
unfolding signed_at
signed_large bits content z p large =
    let read = integer_only content z p in
    let test = le-ltb (size_of z) (2 ^ (bits - 1)) large in
    rw (read, test) refl

-- from 128 bits to fewer, without a sign

pub fewer_refused : (bits : ℕ) (content : List ℕ) (e : Error) → 2 ^ bits ≤ 2 ^ 128 → Err e ≡ unsigned_at 128 content → Err e ≡ unsigned_at bits content
unfolding unsigned_at
fewer_refused bits content e fewer is = by (natural_at content) is
  where
    by : (r : Result ℕ Error) → Err e ≡ (r >>= unsigned_in 128) → Err e ≡ (r >>= unsigned_in bits)
    by (Err x) is = is
    by (Ok n) is = at (nat_lt n (2 ^ 128)) refl
      where
        at : (b : Bool) → nat_lt n (2 ^ 128) ≡ b → Err e ≡ unsigned_in bits n
        at true small = let never = rw small at is in cc
        at false large =
            let test = le-ltb n (2 ^ bits) (omega (arith, ltb-false n (2 ^ 128) large, fewer)) in
            let same = rw large at is in
            rw test same

pub fewer_read : (bits : ℕ) (content : List ℕ) (n : ℕ) → Ok n ≡ unsigned_at 128 content → n < 2 ^ bits → Ok n ≡ unsigned_at bits content
fewer_read bits content n is small = sym (unsigned_only bits content n (unsigned_found 128 content n (sym is)).0 small)

pub fewer_large : (bits : ℕ) (content : List ℕ) (n : ℕ) → Ok n ≡ unsigned_at 128 content → 2 ^ bits ≤ n → Err errors.IntegerTooLarge ≡ unsigned_at bits content
fewer_large bits content n is large = sym (unsigned_large bits content n (natural_only content n (unsigned_found 128 content n (sym is)).0) large)

-- from 129 bits with the sign to fewer

pub narrower_refused : (bits : ℕ) (content : List ℕ) (e : Error) → 2 ^ (bits - 1) ≤ 2 ^ 128 → Err e ≡ signed_at 129 content → Err e ≡ signed_at bits content
unfolding signed_at
narrower_refused bits content e fewer is = by (number_at content) is
  where
    by : (r : Result ℤ Error) → Err e ≡ (r >>= signed_in 129) → Err e ≡ (r >>= signed_in bits)
    by (Err x) is = is
    by (Ok z) is = at (nat_lt (size_of z) (2 ^ 128)) refl
      where
        at : (b : Bool) → nat_lt (size_of z) (2 ^ 128) ≡ b → Err e ≡ signed_in bits z
        at true small = let never = rw small at is in cc
        at false large =
            let test = le-ltb (size_of z) (2 ^ (bits - 1)) (omega (arith, ltb-false (size_of z) (2 ^ 128) large, fewer)) in
            let same = rw large at is in
            rw test same

pub narrower_read : (bits : ℕ) (content : List ℕ) (z : ℤ) → signed_at 129 content ≡ Ok z → IsSigned bits z → Ok z ≡ signed_at bits content
narrower_read bits content z is small = sym (signed_only bits content z (signed_found 129 content z is).0 small)

pub narrower_large : (bits : ℕ) (content : List ℕ) (z : ℤ) → signed_at 129 content ≡ Ok z → (IsSigned bits z → ⊥) → Err errors.IntegerTooLarge ≡ signed_at bits content
narrower_large bits content z is not = sym (signed_large bits content z (signed_found 129 content z is).0 (omega (arith, not)))

-- what the steps of the readers find

pub some_none : (content : List ℕ) → length content ≡ 0 → some_octets content ≡ Err errors.InvalidLength
unfolding some_octets
some_none content e = ap some_octets (nil_from_length content e)

pub natural_none : (content : List ℕ) → length content ≡ 0 → natural_at content ≡ Err errors.InvalidLength
natural_none content e = ap natural_at (nil_from_length content e) ∙ natural_empty

pub signed_none : (bits : ℕ) (content : List ℕ) → length content ≡ 0 → signed_at bits content ≡ Err errors.InvalidLength
signed_none bits content e = ap (signed_at bits) (nil_from_length content e) ∙ signed_empty bits

pub natural_below : (content : List ℕ) → content ≢ [] → IsNegative (twos_complement content) → natural_at content ≡ Err errors.IntegerNegative
natural_below content some is = by (twos_complement content) refl is
  where
    by : (z : ℤ) → twos_complement content ≡ z → IsNegative z → natural_at content ≡ Err errors.IntegerNegative
    by (pos n) e p = absurd p
    by (negsuc n) e p = natural_negative content n (record { some = some; value = e })

pub bits_none : (content : List ℕ) → length content ≡ 0 → bits_at content ≡ Err errors.InvalidLength
unfolding bits_at
bits_none content e = ap bits_at (nil_from_length content e)

pub bits_many : (content : List ℕ) (unused : ℕ) (octets : List ℕ) → content ≡ unused ∷ octets → 7 < unused → bits_at content ≡ Err errors.BerValueError
unfolding bits_at
bits_many content unused octets e many = let test = le-ltb unused 8 many in ap bits_at e ∙ rw test refl

pub bits_lost : (content : List ℕ) (unused : ℕ) (octets : List ℕ) → content ≡ unused ∷ octets → 0 < unused → unused ≤ 7 → length octets ≡ 0 →
    bits_at content ≡ Err errors.InvalidLength
unfolding bits_at
bits_lost content unused octets e some few none =
    let test = lt-ltb unused 8 (omega arith) in
    let no : (unused == 0) ≡ false = ne_eqb unused 0 (λ zero. omega arith) in
    ap bits_at e ∙ ap (λ s. bits_at (unused ∷ s)) (nil_from_length octets none) ∙ rw (test, no) refl

pub bits_refused : (content : List ℕ) (e : Error) → bits_at content ≡ Err e → Err e ≡ check_bits content
unfolding check_bits
bits_refused content e is = rw is refl

pub bits_zero : (content : List ℕ) (unused : ℕ) (octets : List ℕ) → bits_at content ≡ Ok (unused, octets) → AreUnusedZero unused octets → Ok tt ≡ check_bits content
unfolding check_bits
bits_zero content unused octets is none = let test = eq-eqb _ 0 none in rw (is, test) refl

pub bits_set : (content : List ℕ) (unused : ℕ) (octets : List ℕ) → bits_at content ≡ Ok (unused, octets) → (AreUnusedZero unused octets → ⊥) →
    Err (errors.DerConstraintFailed constraints.UnusedBitsNotZero) ≡ check_bits content
unfolding check_bits
bits_set content unused octets is set = let test = ne_eqb _ 0 set in rw (is, test) refl
