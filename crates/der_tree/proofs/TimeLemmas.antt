-- What the readers of times read is what `Time` says.
use Rattle.std.proofs.Common.{◌≡◌, ◌∙◌, sym, ap, refl, ℕ, ◌+◌, ◌-◌, ◌*◌, ◌/◌, ◌%◌, ◌<◌, ◌≤◌, ◌==◌, ◌&&◌, ◌||◌, not, List, [], ◌∷◌, ◌++◌, Bool, true, false, if◌then◌else◌, arith, IsTrue, Some, None, subst, pos, ◌↔◌}
use Rattle.std.specs.List.{list_all}
use Rattle.std.specs.Char.{is_ascii_digit}
use Rattle.std.proofs.lemmas.Option.{option_and_then_some, none-some}
use Rattle.std.proofs.lemmas.Bool.{eqb-true}
use Rattle.std.proofs.lemmas.Bool.Decides.{nat_tests}
use Rattle.std.proofs.lemmas.Int.{ints}
use Rattle.jiff.specs.Words.{days_in_month, is_leap_year}
use Rattle.der_tree.specs.Time.{Moment, IsMoment, two_digits, after_year, IsUtcTime, IsGeneralizedTime, ends_in_zero, fraction_octets}
use Rattle.der_tree.specs.TimeReading.{pair_at, moment_at, year_of, utc_at, generalized_at, is_fraction, IsWritable, EndsTime}

digit_found : (c : ℕ) → is_ascii_digit c ≡ true → (48 ≤ c) × (c ≤ 57)
digit_found c p = grind (arith, nat_tests)

digit_again : (n : ℕ) → n < 10 → is_ascii_digit (48 + n) ≡ true
digit_again n p = grind (arith, nat_tests)

both_true : (a b : Bool) → (a && b) ≡ true → (a ≡ true) × (b ≡ true)
both_true true b p = (refl, p)
both_true false b p = cc

if_some : {A : Type 0} (b : Bool) (x y : A) → (if b then Some x else None) ≡ Some y → (b ≡ true) × (x ≡ y)
if_some true x y e = (refl, cc)
if_some false x y e = cc

not_true : (b : Bool) → not b ≡ true → b ≡ false
not_true true p = cc
not_true false p = refl

pub pair_found : (i : List ℕ) (n : ℕ) (r : List ℕ) → pair_at i ≡ Some (n, r) → (n < 100) × (i ≡ two_digits n ++ r)
unfolding pair_at
pair_found [] n r e = cc
pair_found (a ∷ []) n r e = cc
pair_found (a ∷ b ∷ s) n r e =
    let both = if_some (is_ascii_digit a && is_ascii_digit b) ((a - 48) * 10 + (b - 48), s) (n, r) e in
    let digits = both_true (is_ascii_digit a) (is_ascii_digit b) both.0 in
    let first = digit_found a digits.0 in
    let second = digit_found b digits.1 in
    let value : (a - 48) * 10 + (b - 48) ≡ n = ap (λ (z : ℕ × List ℕ). z.0) both.1 in
    let rest : s ≡ r = ap (λ (z : ℕ × List ℕ). z.1) both.1 in
    let high : a ≡ 48 + n / 10 = omega arith in
    let low : b ≡ 48 + n % 10 = omega arith in
    (omega arith, ap (λ z. z ∷ b ∷ s) high ∙ ap (λ z. (48 + n / 10) ∷ z ∷ s) low ∙ ap (λ z. two_digits n ++ z) rest)

pub pair_again : (n : ℕ) (r : List ℕ) → n < 100 → pair_at (two_digits n ++ r) ≡ Some (n, r)
unfolding pair_at
pair_again n r p =
    let first : is_ascii_digit (48 + n / 10) ≡ true = digit_again (n / 10) (omega arith) in
    let second : is_ascii_digit (48 + n % 10) ≡ true = digit_again (n % 10) (omega arith) in
    let value : (48 + n / 10 - 48) * 10 + (48 + n % 10 - 48) ≡ n = omega arith in
    rw (first, second, value) refl

pub moment_found : (y : ℕ) (i : List ℕ) (m : Moment) (r : List ℕ) → moment_at y i ≡ Some (m, r) → (m.year ≡ y) × (i ≡ after_year m ++ r)
unfolding moment_at
moment_found y i m r e =
    option_and_then_some _ (pair_at i) (m, r) e (λ month e0 r0.
    option_and_then_some _ (pair_at month.1) (m, r) r0 (λ day e1 r1.
    option_and_then_some _ (pair_at day.1) (m, r) r1 (λ hour e2 r2.
    option_and_then_some _ (pair_at hour.1) (m, r) r2 (λ minute e3 r3.
    option_and_then_some _ (pair_at minute.1) (m, r) r3 (λ second e4 r4.
    let here : Moment = record { year = y; month = month.0; day = day.0; hour = hour.0; minute = minute.0; second = second.0 } in
    let both : ◌≡◌ {A = Moment × List ℕ} (here, second.1) (m, r) = cc in
    let p0 = (pair_found i month.0 month.1 e0).1 in
    let p1 = (pair_found month.1 day.0 day.1 e1).1 in
    let p2 = (pair_found day.1 hour.0 hour.1 e2).1 in
    let p3 = (pair_found hour.1 minute.0 minute.1 e3).1 in
    let p4 = (pair_found minute.1 second.0 second.1 e4).1 in
    let whole : i ≡ after_year here ++ second.1 =
    p0 ∙ ap (λ z. two_digits month.0 ++ z) (p1 ∙ ap (λ z. two_digits day.0 ++ z) (p2 ∙ ap (λ z. two_digits hour.0 ++ z) (p3 ∙ ap (λ z. two_digits minute.0 ++ z) p4))) in
    (ap (λ (z : Moment × List ℕ). z.0.year) (sym both), whole ∙ ap (λ (z : Moment × List ℕ). after_year z.0 ++ z.1) both))))))

pub moment_again : (m : Moment) (r : List ℕ) → IsWritable m → moment_at m.year (after_year m ++ r) ≡ Some (m, r)
unfolding moment_at
moment_again m r w =
    let s4 = two_digits m.second ++ r in
    let s3 = two_digits m.minute ++ s4 in
    let s2 = two_digits m.hour ++ s3 in
    let s1 = two_digits m.day ++ s2 in
    let p0 = pair_again m.month s1 w.month in
    let p1 = pair_again m.day s2 w.day in
    let p2 = pair_again m.hour s3 w.hour in
    let p3 = pair_again m.minute s4 w.minute in
    let p4 = pair_again m.second r w.second in
    rw (p0, p1, p2, p3, p4) refl

-- a real date and time has parts that digits can write

days_below : (leap : Bool) (m : ℕ) → (if m == 2 then (if leap then 29 else 28) else (if (m == 4) || (m == 6) || (m == 9) || (m == 11) then 30 else 31)) ≤ 31
days_below leap m = grind (arith, nat_tests)

pub moment_writable : (m : Moment) → IsMoment m → IsWritable m
moment_writable m p =
    let days : days_in_month (pos m.year) m.month ≤ 31 = days_below (is_leap_year (pos m.year)) m.month in
    record {
      year = omega (arith, ints);
      month = omega (arith, ints);
      day = omega (arith, ints);
      hour = omega (arith, ints);
      minute = omega (arith, ints);
      second = omega (arith, ints);
    }

-- UTCTime

year_found : (y : ℕ) → y < 100 → (1950 ≤ year_of y) × (year_of y < 2050) × (year_of y % 100 ≡ y)
year_found y p = (grind (arith, nat_tests), grind (arith, nat_tests), grind (arith, nat_tests))

year_again : (y : ℕ) → 1950 ≤ y → y < 2050 → year_of (y % 100) ≡ y
year_again y p q = grind (arith, nat_tests)

pub utc_found : (i : List ℕ) (m : Moment) → utc_at i ≡ Some (m, 90 ∷ []) → IsMoment m → IsUtcTime i
unfolding utc_at
utc_found i m e is =
    option_and_then_some _ (pair_at i) (m, 90 ∷ []) e (λ year e0 r0.
    let first = pair_found i year.0 year.1 e0 in
    let second = moment_found (year_of year.0) year.1 m (90 ∷ []) r0 in
    let years = year_found year.0 first.0 in
    let y : m.year % 100 ≡ year.0 = ap (λ n. n % 100) second.0 ∙ years.2 in
    record {
      moment = m;
      is_moment = is;
      first = omega arith;
      last = omega arith;
      octets = first.1 ∙ ap (λ n. two_digits n ++ year.1) (sym y) ∙ ap (λ z. two_digits (m.year % 100) ++ z) second.1;
    })

pub utc_only : (i : List ℕ) → IsUtcTime i → (m : Moment) × (utc_at i ≡ Some (m, 90 ∷ [])) × IsMoment m
unfolding utc_at
utc_only i p =
    let m = p.moment in
    let w = moment_writable m p.is_moment in
    let first = pair_again (m.year % 100) (after_year m ++ 90 ∷ []) (omega arith) in
    let year = year_again m.year p.first p.last in
    let second = moment_again m (90 ∷ []) w in
    (m, ap utc_at p.octets ∙ rw (first, year, second) refl, p.is_moment)

-- GeneralizedTime

fraction_found : (s : List ℕ) → is_fraction s ≡ true → (ds : List ℕ) × IsTrue (list_all is_ascii_digit ds) × (ends_in_zero ds ≡ false) × (s ≡ fraction_octets ds)
fraction_found [] p = ([], refl, refl, refl)
fraction_found (c ∷ []) p = cc
fraction_found (c ∷ d ∷ ds) p =
    let outer = both_true (c == 46 && list_all is_ascii_digit (d ∷ ds)) (not (ends_in_zero (d ∷ ds))) p in
    let inner = both_true (c == 46) (list_all is_ascii_digit (d ∷ ds)) outer.0 in
    (d ∷ ds, inner.1, not_true (ends_in_zero (d ∷ ds)) outer.1, ap (λ z. z ∷ d ∷ ds) (eqb-true c 46 inner.0))

fraction_only : (ds : List ℕ) → list_all is_ascii_digit ds ≡ true → ends_in_zero ds ≡ false → is_fraction (fraction_octets ds) ≡ true
fraction_only [] p q = refl
fraction_only (d ∷ ds) p q = rw (p, q) refl

pub generalized_found : (i : List ℕ) (m : Moment) (r : List ℕ) → generalized_at i ≡ Some (m, r) → EndsTime r → IsMoment m → IsGeneralizedTime i
unfolding generalized_at
generalized_found i m r e ends is =
    option_and_then_some _ (pair_at i) (m, r) e (λ century e0 r0.
    option_and_then_some _ (pair_at century.1) (m, r) r0 (λ year e1 r1.
    let first = pair_found i century.0 century.1 e0 in
    let second = pair_found century.1 year.0 year.1 e1 in
    let third = moment_found (century.0 * 100 + year.0) year.1 m r r1 in
    let fraction = fraction_found ends.0 ends.1 in
    let high : m.year / 100 ≡ century.0 = omega arith in
    let low : m.year % 100 ≡ year.0 = omega arith in
    let tail : r ≡ fraction_octets fraction.0 ++ 90 ∷ [] = ends.2 ∙ ap (λ z. z ++ 90 ∷ []) fraction.3 in
    record {
      moment = m;
      fraction = fraction.0;
      is_moment = is;
      digits = fraction.1;
      no_last_zero = fraction.2;
      octets = first.1 ∙ ap (λ n. two_digits n ++ century.1) (sym high) ∙ ap (λ z. two_digits (m.year / 100) ++ z)
          (second.1 ∙ ap (λ n. two_digits n ++ year.1) (sym low) ∙ ap (λ z. two_digits (m.year % 100) ++ z) (third.1 ∙ ap (λ z. after_year m ++ z) tail));
    }))

pub generalized_only : (i : List ℕ) → IsGeneralizedTime i → (m : Moment) × (r : List ℕ) × (generalized_at i ≡ Some (m, r)) × EndsTime r × IsMoment m
unfolding generalized_at
generalized_only i p =
    let m = p.moment in
    let r = fraction_octets p.fraction ++ 90 ∷ [] in
    let w = moment_writable m p.is_moment in
    let first = pair_again (m.year / 100) (two_digits (m.year % 100) ++ (after_year m ++ r)) (omega (arith, w.year)) in
    let second = pair_again (m.year % 100) (after_year m ++ r) (omega arith) in
    let year : m.year / 100 * 100 + m.year % 100 ≡ m.year = omega arith in
    let third = moment_again m r w in
    (m, r, ap generalized_at p.octets ∙ rw (first, second, year, third) refl, (fraction_octets p.fraction, fraction_only p.fraction p.digits p.no_last_zero, refl), p.is_moment)

-- what the tests answer

same_read : (a b : Moment × List ℕ) → Some a ≡ Some b → (a.0 ≡ b.0) × (a.1 ≡ b.1)
same_read a b e = let both : a ≡ b = cc in (ap (λ (z : Moment × List ℕ). z.0) both, ap (λ (z : Moment × List ℕ). z.1) both)

pub utc_test : (i : List ℕ) (m : Moment) (r : List ℕ) (b : Bool) → Some (m, r) ≡ utc_at i → r ≡ 90 ∷ [] → (IsTrue b ↔ IsMoment m) → (IsTrue b ↔ IsUtcTime i)
utc_test i m r b e end real = (
  λ t. utc_found i m (sym e ∙ ap (λ z. Some (m, z)) end) (real.0 t),
  λ p.
      let u = utc_only i p in
      let same = same_read (m, r) (u.0, 90 ∷ []) (e ∙ u.1) in
      real.1 (subst IsMoment (sym same.0) u.2),
)

pub utc_open : (i : List ℕ) (m : Moment) (r : List ℕ) → Some (m, r) ≡ utc_at i → (r ≡ 90 ∷ [] → ⊥) → IsUtcTime i → ⊥
utc_open i m r e unended p = let u = utc_only i p in unended (same_read (m, r) (u.0, 90 ∷ []) (e ∙ u.1)).1

pub utc_none : (i : List ℕ) → None ≡ utc_at i → IsUtcTime i → ⊥
utc_none i e p = let u = utc_only i p in none-some {A = Moment × List ℕ} (u.0, 90 ∷ []) (e ∙ u.1)

pub generalized_test : (i : List ℕ) (m : Moment) (r : List ℕ) (b : Bool) → Some (m, r) ≡ generalized_at i → EndsTime r → (IsTrue b ↔ IsMoment m) → (IsTrue b ↔ IsGeneralizedTime i)
generalized_test i m r b e end real = (
  λ t. generalized_found i m r (sym e) end (real.0 t),
  λ p.
      let u = generalized_only i p in
      let same = same_read (m, r) (u.0, u.1) (e ∙ u.2) in
      real.1 (subst IsMoment (sym same.0) u.4),
)

pub generalized_open : (i : List ℕ) (m : Moment) (r : List ℕ) → Some (m, r) ≡ generalized_at i → (EndsTime r → ⊥) → IsGeneralizedTime i → ⊥
generalized_open i m r e unended p =
    let u = generalized_only i p in
    unended (subst EndsTime (sym (same_read (m, r) (u.0, u.1) (e ∙ u.2)).1) u.3)

pub generalized_none : (i : List ℕ) → None ≡ generalized_at i → IsGeneralizedTime i → ⊥
generalized_none i e p = let u = generalized_only i p in none-some {A = Moment × List ℕ} (u.0, u.1) (e ∙ u.2)
