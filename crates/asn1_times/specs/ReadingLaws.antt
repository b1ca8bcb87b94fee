-- What is read step by step is what `Fields` says.
use Rattle.std.proofs.Common.{◌≡◌, ◌∙◌, sym, ap, refl, inl, inr, ℕ, zero, suc, ◌+◌, ◌-◌, ◌*◌, ◌/◌, ◌%◌, ◌<◌, ◌≤◌, ◌==◌, ◌&&◌, List, [], ◌∷◌, ◌++◌, Bool, true, false, if◌then◌else◌, arith, Option, Some, None, pos, negsuc, subst}
use Rattle.std.specs.Int.{IsInRange}
use Rattle.std.specs.Char.{is_ascii_digit}
use Rattle.std.proofs.lemmas.Option.{option_and_then_some}
use Rattle.std.proofs.lemmas.Bool.{eqb-true}
use Rattle.std.proofs.lemmas.Bool.Decides.{nat_tests}
use Rattle.std.proofs.lemmas.Int.{ints}
use Rattle.asn1_times.specs.Fields.{two_digits, minute_octets, thousandths_octets, fraction_octets, zone_octets, SpellsSeconds, SpellsZone, SpellsTime, IsZone, IsFraction}
use Rattle.asn1_times.specs.Reading.{◌>>=◌, digit_at, pair_at, ends_at, third_at, second_at, milliseconds_at, some_fraction, fraction_at, clock_by, clock_at, behind, signed_at, offset_at, zone_at, tail_at}
use Rattle.asn1_times.specs.declared.datetime.ASN1DateTime.{ASN1DateTime}
use Rattle.asn1_times.specs.declared.datetime.ASN1TimeZone.{ASN1TimeZone}
use Rattle.asn1_times.specs.declared.datetime.ASN1TimeZone.TheVariants as zones

digit_found : (c : ℕ) → is_ascii_digit c ≡ true → (48 ≤ c) × (c ≤ 57)
digit_found c p = grind (arith, nat_tests)

digit_again : (n : ℕ) → n < 10 → is_ascii_digit (48 + n) ≡ true
digit_again n p = grind (arith, nat_tests)

both_true : (a b : Bool) → (a && b) ≡ true → (a ≡ true) × (b ≡ true)
both_true true b p = (refl, p)
both_true false b p = cc

if_some : {A : Type 0} (b : Bool) (x y : A) → (if b then Some x else None) ≡ Some y → (b ≡ true) × (x ≡ y)
if_some true x y e = (refl, cc)
if_some false x y e = cc

-- one digit

one_found : (i : List ℕ) (n : ℕ) (r : List ℕ) → digit_at i ≡ Some (n, r) → (n < 10) × (i ≡ (48 + n) ∷ r)
unfolding digit_at
one_found [] n r e = cc
one_found (c ∷ s) n r e =
    let both = if_some (is_ascii_digit c) (c - 48, s) (n, r) e in
    let digit = digit_found c both.0 in
    let value : c - 48 ≡ n = ap (λ (z : ℕ × List ℕ). z.0) both.1 in
    let rest : s ≡ r = ap (λ (z : ℕ × List ℕ). z.1) both.1 in
    let is : c ≡ 48 + n = omega arith in
    (omega arith, ap (λ z. z ∷ s) is ∙ ap (λ z. (48 + n) ∷ z) rest)

one_again : (n : ℕ) (r : List ℕ) → n < 10 → digit_at ((48 + n) ∷ r) ≡ Some (n, r)
unfolding digit_at
one_again n r p =
    let digit : is_ascii_digit (48 + n) ≡ true = digit_again n p in
    let value : 48 + n - 48 ≡ n = omega arith in
    rw (digit, value) refl

-- two digits

pub pair_found : (i : List ℕ) (n : ℕ) (r : List ℕ) → pair_at i ≡ Some (n, r) → (n < 100) × (i ≡ two_digits n ++ r)
unfolding pair_at
pair_found [] n r e = cc
pair_found (a ∷ []) n r e = cc
pair_found (a ∷ b ∷ s) n r e =
    let both = if_some (is_ascii_digit a && is_ascii_digit b) ((a - 48) * 10 + (b - 48), s) (n, r) e in
    let digits = both_true (is_ascii_digit a) (is_ascii_digit b) both.0 in
    let first = digit_found a digits.0 in
    let second = digit_found b digits.1 in
    let value : (a - 48) * 10 + (b - 48) ≡ n = ap (λ (z : ℕ × List ℕ). z.0) both.1 in
    let rest : s ≡ r = ap (λ (z : ℕ × List ℕ). z.1) both.1 in
    let high : a ≡ 48 + n / 10 % 10 = omega arith in
    let low : b ≡ 48 + n % 10 = omega arith in
    (omega arith, ap (λ z. z ∷ b ∷ s) high ∙ ap (λ z. (48 + n / 10 % 10) ∷ z ∷ s) low ∙ ap (λ z. two_digits n ++ z) rest)

pub pair_again : (n : ℕ) (r : List ℕ) → n < 100 → pair_at (two_digits n ++ r) ≡ Some (n, r)
unfolding pair_at
pair_again n r p =
    let first : is_ascii_digit (48 + n / 10 % 10) ≡ true = digit_again (n / 10 % 10) (omega arith) in
    let second : is_ascii_digit (48 + n % 10) ≡ true = digit_again (n % 10) (omega arith) in
    let value : (48 + n / 10 % 10 - 48) * 10 + (48 + n % 10 - 48) ≡ n = omega arith in
    rw (first, second, value) refl

-- thousandths

one_octet : (a : ℕ) → a < 10 → thousandths_octets (a * 100) ≡ (48 + a) ∷ []
one_octet a p =
    let test : (a * 100 % 100 == 0) ≡ true = grind (arith, nat_tests) in
    let first : a * 100 / 100 % 10 ≡ a = omega arith in
    rw (test, first) refl

two_octets : (a b : ℕ) → a < 10 → b < 10 → 0 < b → thousandths_octets (a * 100 + b * 10) ≡ (48 + a) ∷ (48 + b) ∷ []
two_octets a b p q some =
    let test : ((a * 100 + b * 10) % 100 == 0) ≡ false = grind (arith, nat_tests) in
    let next : ((a * 100 + b * 10) % 10 == 0) ≡ true = grind (arith, nat_tests) in
    let first : (a * 100 + b * 10) / 10 / 10 % 10 ≡ a = omega arith in
    let second : (a * 100 + b * 10) / 10 % 10 ≡ b = omega arith in
    rw (test, next, first, second) refl

three_octets : (a b c : ℕ) → a < 10 → b < 10 → c < 10 → 0 < c → thousandths_octets (a * 100 + b * 10 + c) ≡ (48 + a) ∷ (48 + b) ∷ (48 + c) ∷ []
three_octets a b c p q s some =
    let test : ((a * 100 + b * 10 + c) % 100 == 0) ≡ false = grind (arith, nat_tests) in
    let next : ((a * 100 + b * 10 + c) % 10 == 0) ≡ false = grind (arith, nat_tests) in
    let first : (a * 100 + b * 10 + c) / 100 % 10 ≡ a = omega arith in
    let second : (a * 100 + b * 10 + c) / 10 % 10 ≡ b = omega arith in
    let third : (a * 100 + b * 10 + c) % 10 ≡ c = omega arith in
    rw (test, next, first, second, third) refl

ends_some : (b : Bool) (p q : ℕ × List ℕ) → (if b then None else Some p) ≡ Some q → (b ≡ false) × (p ≡ q)
ends_some true p q e = cc
ends_some false p q e = (refl, cc)

ends_found : (d : ℕ) (p q : ℕ × List ℕ) → ends_at d p ≡ Some q → (0 < d) × (p ≡ q)
ends_found d p q e = let both = ends_some (d == 0) p q e in let test : (d == 0) ≡ false = both.0 in (grind (arith, nat_tests), both.1)

abbrev IsThousandths : List ℕ → ℕ → List ℕ → Type 0
IsThousandths i n r = IsInRange 1 999 n × (i ≡ thousandths_octets n ++ r)

third_found : (o : Option (ℕ × List ℕ)) (a : ℕ) (b : ℕ × List ℕ) (s : List ℕ) (n : ℕ) (r : List ℕ) → digit_at b.1 ≡ o → a < 10 → b.0 < 10 →
    third_at o (a, s) b ≡ Some (n, r) → IsThousandths ((48 + a) ∷ (48 + b.0) ∷ b.1) n r
third_found None a b s n r o p q e =
    let f = ends_found b.0 (a * 100 + b.0 * 10, b.1) (n, r) e in
    let value : a * 100 + b.0 * 10 ≡ n = ap (λ (z : ℕ × List ℕ). z.0) f.1 in
    let rest : b.1 ≡ r = ap (λ (z : ℕ × List ℕ). z.1) f.1 in (
      (omega (arith, p, q, f.0, value), omega (arith, p, q, f.0, value)),
      ap (λ z. (48 + a) ∷ (48 + b.0) ∷ z) rest ∙ ap (λ z. z ++ r) (sym (two_octets a b.0 p q f.0)) ∙ ap (λ z. thousandths_octets z ++ r) value,
    )
third_found (Some c) a b s n r o p q e =
    let f = ends_found c.0 (a * 100 + b.0 * 10 + c.0, c.1) (n, r) e in
    let digit = one_found b.1 c.0 c.1 o in
    let value : a * 100 + b.0 * 10 + c.0 ≡ n = ap (λ (z : ℕ × List ℕ). z.0) f.1 in
    let rest : c.1 ≡ r = ap (λ (z : ℕ × List ℕ). z.1) f.1 in (
      (omega (arith, p, q, digit.0, f.0, value), omega (arith, p, q, digit.0, f.0, value)),
      ap (λ z. (48 + a) ∷ (48 + b.0) ∷ z) (digit.1 ∙ ap (λ z. (48 + c.0) ∷ z) rest) ∙ ap (λ z. z ++ r) (sym (three_octets a b.0 c.0 p q digit.0 f.0))
          ∙ ap (λ z. thousandths_octets z ++ r) value,
    )

second_found : (o : Option (ℕ × List ℕ)) (a : ℕ × List ℕ) (n : ℕ) (r : List ℕ) → digit_at a.1 ≡ o → a.0 < 10 →
    second_at o a ≡ Some (n, r) → IsThousandths ((48 + a.0) ∷ a.1) n r
second_found None a n r o p e =
    let f = ends_found a.0 (a.0 * 100, a.1) (n, r) e in
    let value : a.0 * 100 ≡ n = ap (λ (z : ℕ × List ℕ). z.0) f.1 in
    let rest : a.1 ≡ r = ap (λ (z : ℕ × List ℕ). z.1) f.1 in (
      (omega (arith, p, f.0, value), omega (arith, p, f.0, value)),
      ap (λ z. (48 + a.0) ∷ z) rest ∙ ap (λ z. z ++ r) (sym (one_octet a.0 p)) ∙ ap (λ z. thousandths_octets z ++ r) value,
    )
second_found (Some b) a n r o p e =
    let digit = one_found a.1 b.0 b.1 o in
    let t = third_found (digit_at b.1) a.0 b a.1 n r refl p digit.0 e in
    (t.0, ap (λ z. (48 + a.0) ∷ z) digit.1 ∙ t.1)

pub milliseconds_found : (i : List ℕ) (n : ℕ) (r : List ℕ) → milliseconds_at i ≡ Some (n, r) → IsThousandths i n r
unfolding milliseconds_at
milliseconds_found i n r e =
    option_and_then_some _ (digit_at i) (n, r) e (λ a e0 r0.
    let digit = one_found i a.0 a.1 e0 in
    let s = second_found (digit_at a.1) a n r refl digit.0 r0 in
    (s.0, digit.1 ∙ s.1))

ends_again : (d : ℕ) (p : ℕ × List ℕ) → 0 < d → ends_at d p ≡ Some p
ends_again d p some = let test : (d == 0) ≡ false = grind (arith, nat_tests) in rw test refl

thousandths_by : (b c : Bool) (n : ℕ) (r : List ℕ) → (n % 100 == 0) ≡ b → (n % 10 == 0) ≡ c → IsInRange 1 999 n → digit_at r ≡ None →
    milliseconds_at ((if b then (48 + n / 100 % 10) ∷ [] else (if c then two_digits (n / 10) else (48 + n / 100 % 10) ∷ two_digits n)) ++ r) ≡ Some (n, r)
unfolding milliseconds_at
thousandths_by true c n r test next range end =
    let zero_left : n % 100 ≡ 0 = eqb-true (n % 100) 0 test in
    let first = one_again (n / 100 % 10) r (omega arith) in
    let some : 0 < n / 100 % 10 = omega (arith, range, zero_left) in
    let value : n / 100 % 10 * 100 ≡ n = omega (arith, range, zero_left) in
    rw (first, end) (ends_again (n / 100 % 10) (n / 100 % 10 * 100, r) some ∙ ap (λ z. Some (z, r)) value)
thousandths_by false true n r test next range end =
    let zero_left : n % 10 ≡ 0 = eqb-true (n % 10) 0 next in
    let more : 0 < n % 100 = grind (arith, nat_tests) in
    let first = one_again (n / 10 / 10 % 10) ((48 + n / 10 % 10) ∷ r) (omega arith) in
    let second = one_again (n / 10 % 10) r (omega arith) in
    let some : 0 < n / 10 % 10 = omega (arith, range, zero_left, more) in
    let value : n / 10 / 10 % 10 * 100 + n / 10 % 10 * 10 ≡ n = omega (arith, range, zero_left) in
    rw (first, second, end) (ends_again (n / 10 % 10) (n / 10 / 10 % 10 * 100 + n / 10 % 10 * 10, r) some ∙ ap (λ z. Some (z, r)) value)
thousandths_by false false n r test next range end =
    let some : 0 < n % 10 = grind (arith, nat_tests) in
    let first = one_again (n / 100 % 10) ((48 + n / 10 % 10) ∷ (48 + n % 10) ∷ r) (omega arith) in
    let second = one_again (n / 10 % 10) ((48 + n % 10) ∷ r) (omega arith) in
    let third = one_again (n % 10) r (omega arith) in
    let value : n / 100 % 10 * 100 + n / 10 % 10 * 10 + n % 10 ≡ n = omega (arith, range) in
    rw (first, second, third) (ends_again (n % 10) (n / 100 % 10 * 100 + n / 10 % 10 * 10 + n % 10, r) some ∙ ap (λ z. Some (z, r)) value)

pub milliseconds_again : (n : ℕ) (r : List ℕ) → IsInRange 1 999 n → digit_at r ≡ None → milliseconds_at (thousandths_octets n ++ r) ≡ Some (n, r)
milliseconds_again n r range end = thousandths_by (n % 100 == 0) (n % 10 == 0) n r refl refl range end

-- a fraction

fraction_by : (b : Bool) (c : ℕ) (s : List ℕ) (m : Option ℕ) (r : List ℕ) → (c == 46) ≡ b →
    (if b then milliseconds_at s >>= some_fraction else Some (None, c ∷ s)) ≡ Some (m, r) → IsFraction m × (c ∷ s ≡ fraction_octets m ++ r)
fraction_by true c s m r test e =
    option_and_then_some _ (milliseconds_at s) (m, r) e (λ p e0 r0.
    let found = milliseconds_found s p.0 p.1 e0 in
    let both : ◌≡◌ {A = Option ℕ × List ℕ} (Some p.0, p.1) (m, r) = cc in
    let value : Some p.0 ≡ m = ap (λ (z : Option ℕ × List ℕ). z.0) both in
    let rest : p.1 ≡ r = ap (λ (z : Option ℕ × List ℕ). z.1) both in (
      subst IsFraction value found.0,
      ap (λ z. z ∷ s) (eqb-true c 46 test) ∙ ap (λ z. 46 ∷ z) found.1 ∙ ap (λ z. 46 ∷ (thousandths_octets p.0 ++ z)) rest ∙ ap (λ z. fraction_octets z ++ r) value,
    ))
fraction_by false c s m r test e =
    let both : ◌≡◌ {A = Option ℕ × List ℕ} (None, c ∷ s) (m, r) = cc in
    let value : None ≡ m = ap (λ (z : Option ℕ × List ℕ). z.0) both in
    let rest : c ∷ s ≡ r = ap (λ (z : Option ℕ × List ℕ). z.1) both in
    (subst IsFraction value tt, rest ∙ ap (λ z. fraction_octets z ++ r) value)

pub fraction_found : (i : List ℕ) (m : Option ℕ) (r : List ℕ) → fraction_at i ≡ Some (m, r) → IsFraction m × (i ≡ fraction_octets m ++ r)
unfolding fraction_at
fraction_found [] m r e =
    let both : ◌≡◌ {A = Option ℕ × List ℕ} (None, []) (m, r) = cc in
    let value : None ≡ m = ap (λ (z : Option ℕ × List ℕ). z.0) both in
    let rest : [] ≡ r = ap (λ (z : Option ℕ × List ℕ). z.1) both in
    (subst IsFraction value tt, rest ∙ ap (λ z. fraction_octets z ++ r) value)
fraction_found (c ∷ s) m r e = fraction_by (c == 46) c s m r refl e

-- what comes after seconds: neither digits nor a point
pub record IsEnd (r : List ℕ) : Type 0 where
  pub no_digit : digit_at r ≡ None
  pub no_pair : pair_at r ≡ None
  pub no_fraction : fraction_at r ≡ Some (None, r)

pub fraction_again : (m : Option ℕ) (r : List ℕ) → IsFraction m → IsEnd r → fraction_at (fraction_octets m ++ r) ≡ Some (m, r)
unfolding fraction_at
fraction_again None r range end = end.no_fraction
fraction_again (Some n) r range end = let read = milliseconds_again n r range end.no_digit in rw read refl

-- seconds and a fraction

pub clock_found : (o : Option (ℕ × List ℕ)) (i : List ℕ) (n : ℕ) (m : Option ℕ) (r : List ℕ) → pair_at i ≡ o → clock_by o i ≡ Some (n, m, r) →
    (s : List ℕ) × SpellsSeconds s n m × (i ≡ s ++ r)
clock_found None i n m r o e =
    let both : ◌≡◌ {A = ℕ × Option ℕ × List ℕ} (0, None, i) (n, m, r) = cc in
    let second : 0 ≡ n = ap (λ (z : ℕ × Option ℕ × List ℕ). z.0) both in
    let fraction : None ≡ m = ap (λ (z : ℕ × Option ℕ × List ℕ). z.1) both in
    let rest : i ≡ r = ap (λ (z : ℕ × Option ℕ × List ℕ). z.2) both in
    ([], inr (refl, sym second, sym fraction), rest)
clock_found (Some p) i n m r o e =
    option_and_then_some _ (fraction_at p.1) (n, m, r) e (λ f e0 r0.
    let both : ◌≡◌ {A = ℕ × Option ℕ × List ℕ} (p.0, f.0, f.1) (n, m, r) = cc in
    let second : p.0 ≡ n = ap (λ (z : ℕ × Option ℕ × List ℕ). z.0) both in
    let fraction : f.0 ≡ m = ap (λ (z : ℕ × Option ℕ × List ℕ). z.1) both in
    let rest : f.1 ≡ r = ap (λ (z : ℕ × Option ℕ × List ℕ). z.2) both in
    let pair = pair_found i p.0 p.1 o in
    let found = fraction_found p.1 f.0 f.1 e0 in (
      two_digits n ++ fraction_octets m,
      inl refl,
      pair.1 ∙ ap (λ z. two_digits p.0 ++ z) found.1 ∙ ap (λ z. two_digits z ++ (fraction_octets f.0 ++ f.1)) second
          ∙ ap (λ z. two_digits n ++ (fraction_octets z ++ f.1)) fraction ∙ ap (λ z. two_digits n ++ (fraction_octets m ++ z)) rest,
    ))

pub clock_again : (s : List ℕ) (n : ℕ) (m : Option ℕ) (r : List ℕ) → n < 100 → IsFraction m → SpellsSeconds s n m → IsEnd r → clock_at (s ++ r) ≡ Some (n, m, r)
unfolding clock_at
clock_again s n m r small range (inl is) end =
    let pair = pair_again n (fraction_octets m ++ r) small in
    let fraction = fraction_again m r range end in
    ap (λ z. clock_by (pair_at (z ++ r)) (z ++ r)) is ∙ rw (pair, fraction) refl
clock_again s n m r small range (inr is) end =
    let none = end.no_pair in
    ap (λ z. clock_by (pair_at (z ++ r)) (z ++ r)) is.0 ∙ rw none (ap (λ z. Some (z, None, r)) (sym is.1) ∙ ap (λ z. Some (n, z, r)) (sym is.2))

-- zones

behind_back : (h m : ℕ) → behind (suc h) m ≡ zones.Offset (negsuc h) (pos m)
behind_back h m = let test : (suc h == 0) ≡ false = grind (arith, nat_tests) in rw test refl

behind_found : (h m : ℕ) (z : ASN1TimeZone) → behind h m ≡ z → SpellsZone (45 ∷ two_digits h ++ two_digits m) z
behind_found zero zero z e = inr (refl, sym e)
behind_found zero (suc m) z e = inl (ap zone_octets e)
behind_found (suc h) m z e = inl (ap zone_octets (sym (behind_back h m) ∙ e))

signed_by : (b c : Bool) (sign h m : ℕ) (z : ASN1TimeZone) → (sign == 43) ≡ b → (sign == 45) ≡ c →
    (if b then Some (zones.Offset (pos h) (pos m)) else (if c then Some (behind h m) else None)) ≡ Some z → SpellsZone (sign ∷ two_digits h ++ two_digits m) z
signed_by true c sign h m z plus minus e =
    let same : zones.Offset (pos h) (pos m) ≡ z = cc in
    inl (ap (λ n. n ∷ two_digits h ++ two_digits m) (eqb-true sign 43 plus) ∙ ap zone_octets same)
signed_by false true sign h m z plus minus e =
    let same : behind h m ≡ z = cc in
    subst (λ n. SpellsZone (n ∷ two_digits h ++ two_digits m) z) (sym (eqb-true sign 45 minus)) (behind_found h m z same)
signed_by false false sign h m z plus minus e = cc

signed_found : (sign h m : ℕ) (r : List ℕ) (z : ASN1TimeZone) → signed_at sign h m r ≡ Some z → (r ≡ []) × SpellsZone (sign ∷ two_digits h ++ two_digits m) z
signed_found sign h m [] z e = (refl, signed_by (sign == 43) (sign == 45) sign h m z refl refl e)
signed_found sign h m (c ∷ r) z e = cc

offset_found : (sign : ℕ) (i : List ℕ) (z : ASN1TimeZone) → offset_at sign i ≡ Some z → SpellsZone (sign ∷ i) z
unfolding offset_at
offset_found sign i z e =
    option_and_then_some _ (pair_at i) z e (λ hour e0 r0.
    option_and_then_some _ (pair_at hour.1) z r0 (λ minute e1 r1.
    let first = pair_found i hour.0 hour.1 e0 in
    let second = pair_found hour.1 minute.0 minute.1 e1 in
    let end = signed_found sign hour.0 minute.0 minute.1 z r1 in
    let whole : i ≡ two_digits hour.0 ++ two_digits minute.0 = first.1 ∙ ap (λ z. two_digits hour.0 ++ z) (second.1 ∙ ap (λ z. two_digits minute.0 ++ z) end.0) in
    subst (λ s. SpellsZone (sign ∷ s) z) (sym whole) end.1))

pub zone_found : (i : List ℕ) (z : ASN1TimeZone) → zone_at i ≡ Some z → SpellsZone i z
unfolding zone_at
zone_found [] z e = let same : zones.Undefined ≡ z = cc in inl (ap zone_octets same)
zone_found (c ∷ []) z e =
    let both = if_some (c == 90) zones.Z z e in
    inl (ap (λ n. n ∷ []) (eqb-true c 90 both.0) ∙ ap zone_octets both.1)
zone_found (c ∷ d ∷ r) z e = offset_found c (d ∷ r) z e

offset_again : (sign h m : ℕ) → h < 100 → m < 100 → zone_at (sign ∷ two_digits h ++ two_digits m) ≡ signed_at sign h m []
unfolding zone_at offset_at
offset_again sign h m p q =
    let first = pair_again h (two_digits m) p in
    let second = pair_again m [] q in
    rw (first, second) refl

zone_written : (z : ASN1TimeZone) → IsZone z → zone_at (zone_octets z) ≡ Some z
unfolding zone_at
zone_written zones.Undefined range = refl
zone_written zones.Z range = refl
zone_written (zones.Offset (pos h) (pos m)) range = offset_again 43 h m (omega (arith, range.0)) (omega (arith, range.1))
zone_written (zones.Offset (pos zero) (negsuc m)) range = offset_again 45 0 (suc m) (omega arith) (omega (arith, range.1))
zone_written (zones.Offset (pos (suc h)) (negsuc m)) range = absurd (elim range.2 [ inl p ↦ omega (arith, ints, p) | inr p ↦ omega (arith, ints, p) ])
zone_written (zones.Offset (negsuc h) (pos m)) range = offset_again 45 (suc h) m (omega (arith, range.0)) (omega (arith, range.1)) ∙ ap Some (behind_back h m)
zone_written (zones.Offset (negsuc h) (negsuc m)) range = absurd (elim range.2 [ inl p ↦ omega (arith, ints, p) | inr p ↦ omega (arith, ints, p) ])

pub zone_again : (s : List ℕ) (z : ASN1TimeZone) → IsZone z → SpellsZone s z → zone_at s ≡ Some z
unfolding zone_at
zone_again s z range (inl is) = ap zone_at is ∙ zone_written z range
zone_again s z range (inr is) = ap zone_at is.0 ∙ offset_again 45 0 0 (omega arith) (omega arith) ∙ ap Some (sym is.1)

written_ends : (z : ASN1TimeZone) → IsEnd (zone_octets z)
unfolding digit_at pair_at fraction_at
written_ends zones.Undefined = record { no_digit = refl; no_pair = refl; no_fraction = refl }
written_ends zones.Z = record { no_digit = refl; no_pair = refl; no_fraction = refl }
written_ends (zones.Offset (pos h) (pos m)) = record { no_digit = refl; no_pair = refl; no_fraction = refl }
written_ends (zones.Offset (pos h) (negsuc m)) = record { no_digit = refl; no_pair = refl; no_fraction = refl }
written_ends (zones.Offset (negsuc h) m) = record { no_digit = refl; no_pair = refl; no_fraction = refl }

minus_ends : IsEnd (45 ∷ 48 ∷ 48 ∷ 48 ∷ 48 ∷ [])
unfolding digit_at pair_at fraction_at
minus_ends = record { no_digit = refl; no_pair = refl; no_fraction = refl }

pub zone_ends : (s : List ℕ) (z : ASN1TimeZone) → SpellsZone s z → IsEnd s
zone_ends s z (inl is) = subst IsEnd (sym is) (written_ends z)
zone_ends s z (inr is) = subst IsEnd (sym is.0) minus_ends

-- a time after its year

pub tail_found : (year : ℕ) (i : List ℕ) (t : ASN1DateTime) → tail_at year i ≡ Some t → (t.year ≡ year) × SpellsTime [] i t
unfolding tail_at clock_at
tail_found year i t e =
    option_and_then_some _ (pair_at i) t e (λ month e0 r0.
    option_and_then_some _ (pair_at month.1) t r0 (λ day e1 r1.
    option_and_then_some _ (pair_at day.1) t r1 (λ hour e2 r2.
    option_and_then_some _ (pair_at hour.1) t r2 (λ minute e3 r3.
    option_and_then_some _ (clock_at minute.1) t r3 (λ clock e4 r4.
    option_and_then_some _ (zone_at clock.2) t r4 (λ zone e5 r5.
    let here : ASN1DateTime =
    record { year = year; month = month.0; day = day.0; hour = hour.0; minute = minute.0; second = clock.0; millisecond = clock.1; tz = zone } in
    let same : here ≡ t = cc in
    let p0 = (pair_found i month.0 month.1 e0).1 in
    let p1 = (pair_found month.1 day.0 day.1 e1).1 in
    let p2 = (pair_found day.1 hour.0 hour.1 e2).1 in
    let p3 = (pair_found hour.1 minute.0 minute.1 e3).1 in
    let p4 = clock_found (pair_at minute.1) minute.1 clock.0 clock.1 clock.2 refl e4 in
    let whole : i ≡ minute_octets here ++ p4.0 ++ clock.2 =
    p0 ∙ ap (λ z. two_digits month.0 ++ z) (p1 ∙ ap (λ z. two_digits day.0 ++ z) (p2 ∙ ap (λ z. two_digits hour.0 ++ z) (p3 ∙ ap (λ z. two_digits minute.0 ++ z) p4.2))) in
    let spelled : SpellsTime [] i here = record { seconds = p4.0; zone = clock.2; seconds_spelled = p4.1; zone_spelled = zone_found clock.2 zone e5; octets = whole } in
    (ap (λ (z : ASN1DateTime). z.year) (sym same), subst (SpellsTime [] i) same spelled)))))))

-- fields that digits can write
pub record IsWritable (t : ASN1DateTime) : Type 0 where
  pub month : t.month < 100
  pub day : t.day < 100
  pub hour : t.hour < 100
  pub minute : t.minute < 100
  pub second : t.second < 100
  pub fraction : IsFraction t.millisecond
  pub zone : IsZone t.tz

pub tail_again : (i : List ℕ) (t : ASN1DateTime) → IsWritable t → SpellsTime [] i t → tail_at t.year i ≡ Some t
unfolding tail_at
tail_again i t w p =
    let s4 = p.seconds ++ p.zone in
    let s3 = two_digits t.minute ++ s4 in
    let s2 = two_digits t.hour ++ s3 in
    let s1 = two_digits t.day ++ s2 in
    let p0 = pair_again t.month s1 w.month in
    let p1 = pair_again t.day s2 w.day in
    let p2 = pair_again t.hour s3 w.hour in
    let p3 = pair_again t.minute s4 w.minute in
    let p4 = clock_again p.seconds t.second t.millisecond p.zone w.second w.fraction p.seconds_spelled (zone_ends p.zone t.tz p.zone_spelled) in
    let p5 = zone_again p.zone t.tz w.zone p.zone_spelled in
    ap (tail_at t.year) p.octets ∙ rw (p0, p1, p2, p3, p4, p5) refl
