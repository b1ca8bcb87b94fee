-- What the readers of times read is what `Time` says.
use Rattle.std.proofs.Common.{◌≡◌, ◌∙◌, sym, ap, refl, ℕ, zero, suc, ◌<◌, ◌≤◌, ◌==◌, ◌&&◌, ◌||◌, nat_le, not, option_and_then, Bool, true, false, if◌then◌else◌, IfSome, Option, Some, None, List, [], ◌∷◌, ◌++◌, length, arith, append_assoc}
use Rattle.std.specs.List.{list_all}
use Rattle.std.specs.Char.{is_ascii_digit}
use Rattle.std.proofs.lemmas.Option.{option_and_then_some}
use Rattle.std.proofs.lemmas.List.{append-nil}
use Rattle.std.proofs.lemmas.Bool.{eqb-true}
use Rattle.std.proofs.lemmas.Bool.Decides.{nat_tests}
use Rattle.der_tree.specs.Time.{two_digits, fraction_octets, ends_in_zero}
use Rattle.der_tree.specs.TimeReading.{pair_at}
use Rattle.der_tree.proofs.TimeLemmas.{pair_found, pair_again}
use Rattle.ber_tree.specs.Time.{Clock, IsClock, clock_octets, Second, IsSecond, second_octets, Zone, utc, ahead, behind, IsZone, zone_octets, local_octets, IsBerUtcTime, IsBerGeneralizedTime}
use Rattle.ber_tree.specs.TimeReading.{ranged_at, clock_at, begins_with_digit, second_at, digits_at, fraction_at, exact_second_at, offset_at, is_over, is_zone, is_local, utc_at, generalized_at, ends}

if_true : {A : Type 0} (b : Bool) (x y : A) → (if b then Some x else None) ≡ Some y → (b ≡ true) × (x ≡ y)
if_true true x y e = (refl, cc)
if_true false x y e = cc

if_false : {A : Type 0} (b : Bool) (x y : A) → (if b then None else Some x) ≡ Some y → (b ≡ false) × (x ≡ y)
if_false true x y e = cc
if_false false x y e = (refl, cc)

both_true : (a b : Bool) → (a && b) ≡ true → (a ≡ true) × (b ≡ true)
both_true true b p = (refl, p)
both_true false b p = cc

not_true : (b : Bool) → not b ≡ true → b ≡ false
not_true true p = cc
not_true false p = refl

-- a number in a range, and what comes after it
record Ranged (least most : ℕ) (i r : List ℕ) : Type 0 where
  number : ℕ
  low : least ≤ number
  high : number ≤ most
  two : number < 100
  whole : i ≡ two_digits number ++ r

ranged_found : (least most : ℕ) (i r : List ℕ) → ranged_at least most i ≡ Some r → Ranged least most i r
unfolding ranged_at
ranged_found least most i r e =
    option_and_then_some _ (pair_at i) r e (λ p e0 r0.
    let test = if_true (nat_le least p.0 && nat_le p.0 most) p.1 r r0 in
    let both = both_true (nat_le least p.0) (nat_le p.0 most) test.0 in
    let low : least ≤ p.0 = grind (arith, nat_tests) in
    let high : p.0 ≤ most = grind (arith, nat_tests) in
    let pair = pair_found i p.0 p.1 e0 in
    record { number = p.0; low = low; high = high; two = pair.0; whole = pair.1 ∙ ap (λ z. two_digits p.0 ++ z) test.1 })

ranged_again : (least most n : ℕ) (r : List ℕ) → least ≤ n → n ≤ most → n < 100 → ranged_at least most (two_digits n ++ r) ≡ Some r
unfolding ranged_at
ranged_again least most n r low high two =
    let pair = pair_again n r two in
    let first : nat_le least n ≡ true = grind (arith, nat_tests) in
    let second : nat_le n most ≡ true = grind (arith, nat_tests) in
    rw (pair, first, second) refl

record Clocked (i r : List ℕ) : Type 0 where
  clock : Clock
  is_clock : IsClock clock
  whole : i ≡ clock_octets clock ++ r

clock_found : (i r : List ℕ) → clock_at i ≡ Some r → Clocked i r
unfolding clock_at
clock_found i r e =
    option_and_then_some _ (ranged_at 1 12 i) r e (λ day e0 r0.
    option_and_then_some _ (ranged_at 1 31 day) r r0 (λ hour e1 r1.
    option_and_then_some _ (ranged_at 0 23 hour) r r1 (λ minute e2 r2.
    let p0 = ranged_found 1 12 i day e0 in
    let p1 = ranged_found 1 31 day hour e1 in
    let p2 = ranged_found 0 23 hour minute e2 in
    let p3 = ranged_found 0 59 minute r r2 in
    record {
      clock = record { month = p0.number; day = p1.number; hour = p2.number; minute = p3.number };
      is_clock = record { first_month = p0.low; month = p0.high; first_day = p1.low; day = p1.high; hour = p2.high; minute = p3.high };
      whole = p0.whole ∙ ap (λ z. two_digits p0.number ++ z) (p1.whole ∙ ap (λ z. two_digits p1.number ++ z) (p2.whole ∙ ap (λ z. two_digits p2.number ++ z) p3.whole));
    })))

clock_again : (c : Clock) (r : List ℕ) → IsClock c → clock_at (clock_octets c ++ r) ≡ Some r
unfolding clock_at
clock_again c r is =
    let s2 = two_digits c.minute ++ r in
    let s1 = two_digits c.hour ++ s2 in
    let s0 = two_digits c.day ++ s1 in
    let p0 = ranged_again 1 12 c.month s0 is.first_month is.month (omega (arith, is.month)) in
    let p1 = ranged_again 1 31 c.day s1 is.first_day is.day (omega (arith, is.day)) in
    let p2 = ranged_again 0 23 c.hour s2 (omega arith) is.hour (omega (arith, is.hour)) in
    let p3 = ranged_again 0 59 c.minute r (omega arith) is.minute (omega (arith, is.minute)) in
    rw (p0, p1, p2, p3) refl

-- zones

over : (o : Option (List ℕ)) → is_over o ≡ true → o ≡ Some []
over None e = cc
over (Some []) e = refl
over (Some (a ∷ i)) e = cc

record Offset (i : List ℕ) : Type 0 where
  hour : ℕ
  minute : ℕ
  is_hour : hour ≤ 23
  is_minute : minute ≤ 59
  whole : i ≡ two_digits hour ++ two_digits minute

offset_found : (i : List ℕ) → is_over (offset_at i) ≡ true → Offset i
unfolding offset_at
offset_found i e =
    let some : offset_at i ≡ Some [] = over (offset_at i) e in
    option_and_then_some _ (ranged_at 0 23 i) [] some (λ minute e0 r0.
    let p0 = ranged_found 0 23 i minute e0 in
    let p1 = ranged_found 0 59 minute [] r0 in
    record {
      hour = p0.number;
      minute = p1.number;
      is_hour = p0.high;
      is_minute = p1.high;
      whole = p0.whole ∙ ap (λ z. two_digits p0.number ++ z) (p1.whole ∙ append-nil (two_digits p1.number));
    })

offset_again : (hour minute : ℕ) → hour ≤ 23 → minute ≤ 59 → is_over (offset_at (two_digits hour ++ two_digits minute)) ≡ true
unfolding offset_at
offset_again hour minute p q =
    let p0 = ranged_again 0 23 hour (two_digits minute) (omega arith) p (omega (arith, p)) in
    let p1 : ranged_at 0 59 (two_digits minute) ≡ Some [] = ap (ranged_at 0 59) (sym (append-nil (two_digits minute))) ∙ ranged_again 0 59 minute [] (omega arith) q (omega (arith, q)) in
    rw (p0, p1) refl

record Zoned (i : List ℕ) : Type 0 where
  zone : Zone
  is_zone : IsZone zone
  whole : i ≡ zone_octets zone

signed : (sign : ℕ) (i : List ℕ) (u v : Bool) → (sign == 43) ≡ u → (sign == 45) ≡ v → (u || v) ≡ true → Offset i → Zoned (sign ∷ i)
signed sign i true v p q e o =
    record { zone = ahead o.hour o.minute; is_zone = (o.is_hour, o.is_minute); whole = ap (λ z. z ∷ i) (eqb-true sign 43 p) ∙ ap (λ z. 43 ∷ z) o.whole }
signed sign i false true p q e o =
    record { zone = behind o.hour o.minute; is_zone = (o.is_hour, o.is_minute); whole = ap (λ z. z ∷ i) (eqb-true sign 45 q) ∙ ap (λ z. 45 ∷ z) o.whole }
signed sign i false false p q e o = absurd cc

zone_found : (i : List ℕ) → is_zone i ≡ true → Zoned i
unfolding is_zone
zone_found [] e = absurd cc
zone_found (sign ∷ []) e = record { zone = utc; is_zone = tt; whole = ap (λ z. z ∷ []) (eqb-true sign 90 e) }
zone_found (sign ∷ a ∷ i) e =
    let both = both_true ((sign == 43) || (sign == 45)) (is_over (offset_at (a ∷ i))) e in
    signed sign (a ∷ i) (sign == 43) (sign == 45) refl refl both.0 (offset_found (a ∷ i) both.1)

zone_again : (z : Zone) → IsZone z → is_zone (zone_octets z) ≡ true
unfolding is_zone
zone_again utc p = refl
zone_again (ahead hour minute) p = offset_again hour minute p.0 p.1
zone_again (behind hour minute) p = offset_again hour minute p.0 p.1

zone_no_digit : (z : Zone) → begins_with_digit (zone_octets z) ≡ false
zone_no_digit utc = refl
zone_no_digit (ahead hour minute) = refl
zone_no_digit (behind hour minute) = refl

-- fractions

record Digits (n last : ℕ) (i r : List ℕ) : Type 0 where
  more : List ℕ
  few : length more ≤ n
  digits : list_all is_ascii_digit more ≡ true
  no_zero : ends_in_zero (last ∷ more) ≡ false
  whole : i ≡ more ++ r

digits_done : (n last : ℕ) (i r : List ℕ) → (if last == 48 then None else Some i) ≡ Some r → Digits n last i r
digits_done n last i r e =
    let m = if_false (last == 48) i r e in
    record { more = []; few = omega arith; digits = refl; no_zero = m.0; whole = m.1 }

digit_by : (n last d : ℕ) (i r : List ℕ) (b : Bool) → is_ascii_digit d ≡ b → (digits_at n d i ≡ Some r → Digits n d i r) →
    (if b then digits_at n d i else (if last == 48 then None else Some (d ∷ i))) ≡ Some r → Digits (suc n) last (d ∷ i) r
digit_by n last d i r true is go e =
    let m = go e in
    record { more = d ∷ m.more; few = omega (arith, m.few); digits = rw is (m.digits); no_zero = m.no_zero; whole = ap (λ z. d ∷ z) m.whole }
digit_by n last d i r false is go e = let m = digits_done n last (d ∷ i) r e in record { more = m.more; few = omega (arith, m.few); digits = m.digits; no_zero = m.no_zero; whole = m.whole }

digits_found : (n last : ℕ) (i r : List ℕ) → digits_at n last i ≡ Some r → Digits n last i r
unfolding digits_at
digits_found zero last i r e = digits_done zero last i r e
digits_found (suc n) last [] r e = digits_done (suc n) last [] r e
digits_found (suc n) last (d ∷ i) r e = digit_by n last d i r (is_ascii_digit d) refl (digits_found n d i r) e

digits_again : (more : List ℕ) (n last : ℕ) (r : List ℕ) → length more ≤ n → list_all is_ascii_digit more ≡ true → ends_in_zero (last ∷ more) ≡ false → begins_with_digit r ≡ false →
    digits_at n last (more ++ r) ≡ Some r
unfolding digits_at
digits_again [] zero last r few digits no_zero end = rw no_zero refl
digits_again [] (suc n) last [] few digits no_zero end = rw no_zero refl
digits_again [] (suc n) last (a ∷ r) few digits no_zero end = rw (end, no_zero) refl
digits_again (d ∷ more) zero last r few digits no_zero end = absurd (omega (arith, few))
digits_again (d ∷ more) (suc n) last r few digits no_zero end =
    let both = both_true (is_ascii_digit d) (list_all is_ascii_digit more) digits in
    rw both.0 (digits_again more n d r (omega (arith, few)) both.1 no_zero end)

record Fraction (i r : List ℕ) : Type 0 where
  fraction : List ℕ
  few : length fraction ≤ 3
  digits : list_all is_ascii_digit fraction ≡ true
  no_zero : ends_in_zero fraction ≡ false
  whole : i ≡ fraction_octets fraction ++ r

no_fraction : (i r : List ℕ) → i ≡ r → Fraction i r
no_fraction i r e = record { fraction = []; few = omega arith; digits = refl; no_zero = refl; whole = e }

point_by : (p d : ℕ) (i r : List ℕ) (b c : Bool) → (p == 46) ≡ b → is_ascii_digit d ≡ c → (if b then (if c then digits_at 2 d i else None) else Some (p ∷ d ∷ i)) ≡ Some r → Fraction (p ∷ d ∷ i) r
point_by p d i r true true is digit e =
    let m = digits_found 2 d i r e in
    record { fraction = d ∷ m.more; few = omega (arith, m.few); digits = rw digit (m.digits); no_zero = m.no_zero; whole = ap (λ z. z ∷ d ∷ i) (eqb-true p 46 is) ∙ ap (λ z. 46 ∷ d ∷ z) m.whole }
point_by p d i r true false is digit e = cc
point_by p d i r false c is digit e = no_fraction (p ∷ d ∷ i) r cc

fraction_found : (i r : List ℕ) → fraction_at i ≡ Some r → Fraction i r
unfolding fraction_at
fraction_found [] r e = no_fraction [] r cc
fraction_found (p ∷ []) r e = no_fraction (p ∷ []) r (if_false (p == 46) (p ∷ []) r e).1
fraction_found (p ∷ d ∷ i) r e = point_by p d i r (p == 46) (is_ascii_digit d) refl refl e

-- no point
is_plain : List ℕ → Bool
is_plain [] = true
is_plain (p ∷ i) = not (p == 46)

fraction_none : (i : List ℕ) → is_plain i ≡ true → fraction_at i ≡ Some i
unfolding fraction_at is_plain
fraction_none [] e = refl
fraction_none (p ∷ []) e = let f : (p == 46) ≡ false = not_true (p == 46) e in rw f refl
fraction_none (p ∷ d ∷ i) e = let f : (p == 46) ≡ false = not_true (p == 46) e in rw f refl

fraction_again : (f r : List ℕ) → length f ≤ 3 → list_all is_ascii_digit f ≡ true → ends_in_zero f ≡ false → begins_with_digit r ≡ false → is_plain r ≡ true → fraction_at (fraction_octets f ++ r) ≡ Some r
unfolding fraction_at
fraction_again [] r few digits no_zero end plain = fraction_none r plain
fraction_again (d ∷ more) r few digits no_zero end plain =
    let both = both_true (is_ascii_digit d) (list_all is_ascii_digit more) digits in
    rw both.0 (digits_again more 2 d r (omega (arith, few)) both.1 no_zero end)

-- seconds

record Seconds (i r : List ℕ) : Type 0 where
  second : Option Second
  is_second : IfSome second IsSecond
  whole : i ≡ second_octets second ++ r

record Plain (i r : List ℕ) : Type 0 where
  second : Option Second
  is_second : IfSome second (λ n. IsSecond n × (n.fraction ≡ []))
  whole : i ≡ second_octets second ++ r

plain_by : (i r : List ℕ) (b : Bool) → (if b then ranged_at 0 59 i else Some i) ≡ Some r → Plain i r
plain_by i r true e =
    let p = ranged_found 0 59 i r e in
    record {
      second = Some (record { number = p.number; fraction = [] });
      is_second = (record { number = p.high; digits = refl; few = omega arith; no_last_zero = refl }, refl);
      whole = p.whole ∙ ap (λ z. z ++ r) (sym (append-nil (two_digits p.number)));
    }
plain_by i r false e = let same : i ≡ r = cc in record { second = None; is_second = tt; whole = same }

second_found : (i r : List ℕ) → second_at i ≡ Some r → Plain i r
unfolding second_at
second_found i r e = plain_by i r (begins_with_digit i) e

exact_by : (i r : List ℕ) (b : Bool) → (if b then option_and_then fraction_at (ranged_at 0 59 i) else Some i) ≡ Some r → Seconds i r
exact_by i r true e =
    option_and_then_some fraction_at (ranged_at 0 59 i) r e (λ behind e0 r0.
    let p = ranged_found 0 59 i behind e0 in
    let f = fraction_found behind r r0 in
    record {
      second = Some (record { number = p.number; fraction = f.fraction });
      is_second = record { number = p.high; digits = f.digits; few = f.few; no_last_zero = f.no_zero };
      whole = p.whole ∙ ap (λ z. two_digits p.number ++ z) f.whole ∙ sym (append_assoc (two_digits p.number) (fraction_octets f.fraction) r);
    })
exact_by i r false e = let same : i ≡ r = cc in record { second = None; is_second = tt; whole = same }

exact_second_found : (i r : List ℕ) → exact_second_at i ≡ Some r → Seconds i r
unfolding exact_second_at
exact_second_found i r e = exact_by i r (begins_with_digit i) e

digit_first : (n : ℕ) (r : List ℕ) → n < 100 → begins_with_digit (two_digits n ++ r) ≡ true
digit_first n r p = grind (arith, nat_tests)

second_again : (o : Option Second) (r : List ℕ) → IfSome o (λ n. IsSecond n × (n.fraction ≡ [])) → begins_with_digit r ≡ false → second_at (second_octets o ++ r) ≡ Some r
unfolding second_at
second_again None r is end = rw end refl
second_again (Some s) r is end =
    let split : second_octets (Some s) ++ r ≡ two_digits s.number ++ r = ap (λ z. (two_digits s.number ++ fraction_octets z) ++ r) is.1 ∙ ap (λ z. z ++ r) (append-nil (two_digits s.number)) in
    let p = ranged_again 0 59 s.number r (omega arith) is.0.number (omega (arith, is.0.number)) in
    let first = digit_first s.number r (omega (arith, is.0.number)) in
    rw split (rw first p)

exact_second_again : (o : Option Second) (r : List ℕ) → IfSome o IsSecond → begins_with_digit r ≡ false → is_plain r ≡ true → exact_second_at (second_octets o ++ r) ≡ Some r
unfolding exact_second_at
exact_second_again None r is end plain = rw end refl
exact_second_again (Some s) r is end plain =
    let behind : List ℕ = fraction_octets s.fraction ++ r in
    let split : second_octets (Some s) ++ r ≡ two_digits s.number ++ behind = append_assoc (two_digits s.number) (fraction_octets s.fraction) r in
    let p = ranged_again 0 59 s.number behind (omega arith) is.number (omega (arith, is.number)) in
    let first = digit_first s.number behind (omega (arith, is.number)) in
    let f = fraction_again s.fraction r is.few is.digits is.no_last_zero end plain in
    rw split (rw (first, p) f)

-- whole times

ends_by : (f : List ℕ → Bool) (o : Option (List ℕ)) → ends f o ≡ true → (r : List ℕ) × (o ≡ Some r) × (f r ≡ true)
ends_by f None e = absurd cc
ends_by f (Some r) e = (r, refl, e)

pub utc_found : (i : List ℕ) → ends is_zone (utc_at i) ≡ true → IsBerUtcTime i
unfolding utc_at
utc_found i e =
    let end = ends_by is_zone (utc_at i) e in
    option_and_then_some _ (pair_at i) end.0 end.1 (λ year e0 r0.
    option_and_then_some _ (clock_at year.1) end.0 r0 (λ second e1 r1.
    let p0 = pair_found i year.0 year.1 e0 in
    let p1 = clock_found year.1 second e1 in
    let p2 = second_found second end.0 r1 in
    let p3 = zone_found end.0 end.2 in
    record {
      year = year.0;
      clock = p1.clock;
      second = p2.second;
      zone = p3.zone;
      is_year = p0.0;
      is_clock = p1.is_clock;
      is_second = p2.is_second;
      is_zone = p3.is_zone;
      octets = p0.1 ∙ ap (λ z. two_digits year.0 ++ z) (p1.whole ∙ ap (λ z. clock_octets p1.clock ++ z) (p2.whole ∙ ap (λ z. second_octets p2.second ++ z) p3.whole));
    }))

pub utc_again : (i : List ℕ) → IsBerUtcTime i → ends is_zone (utc_at i) ≡ true
unfolding utc_at
utc_again i t =
    let zone = zone_octets t.zone in
    let second = second_octets t.second ++ zone in
    let clock = clock_octets t.clock ++ second in
    let p0 = pair_again t.year clock t.is_year in
    let p1 = clock_again t.clock second t.is_clock in
    let p2 = second_again t.second zone t.is_second (zone_no_digit t.zone) in
    rw (t.octets, p0, p1, p2) (zone_again t.zone t.is_zone)

record Local (i : List ℕ) : Type 0 where
  zone : Option Zone
  is_zone : IfSome zone IsZone
  whole : i ≡ local_octets zone

local_found : (i : List ℕ) → is_local i ≡ true → Local i
unfolding is_local
local_found [] e = record { zone = None; is_zone = tt; whole = refl }
local_found (a ∷ i) e = let m = zone_found (a ∷ i) e in record { zone = Some m.zone; is_zone = m.is_zone; whole = m.whole }

local_again : (o : Option Zone) → IfSome o IsZone → is_local (local_octets o) ≡ true
unfolding is_local
local_again None p = refl
local_again (Some utc) p = zone_again utc p
local_again (Some (ahead hour minute)) p = zone_again (ahead hour minute) p
local_again (Some (behind hour minute)) p = zone_again (behind hour minute) p

local_no_digit : (o : Option Zone) → begins_with_digit (local_octets o) ≡ false
local_no_digit None = refl
local_no_digit (Some z) = zone_no_digit z

local_plain : (o : Option Zone) → is_plain (local_octets o) ≡ true
unfolding is_plain
local_plain None = refl
local_plain (Some utc) = refl
local_plain (Some (ahead hour minute)) = refl
local_plain (Some (behind hour minute)) = refl

pub generalized_found : (i : List ℕ) → ends is_local (generalized_at i) ≡ true → IsBerGeneralizedTime i
unfolding generalized_at
generalized_found i e =
    let end = ends_by is_local (generalized_at i) e in
    option_and_then_some _ (pair_at i) end.0 end.1 (λ century e0 r0.
    option_and_then_some _ (pair_at century.1) end.0 r0 (λ year e1 r1.
    option_and_then_some _ (clock_at year.1) end.0 r1 (λ second e2 r2.
    let p0 = pair_found i century.0 century.1 e0 in
    let p1 = pair_found century.1 year.0 year.1 e1 in
    let p2 = clock_found year.1 second e2 in
    let p3 = exact_second_found second end.0 r2 in
    let p4 = local_found end.0 end.2 in
    record {
      century = century.0;
      year = year.0;
      clock = p2.clock;
      second = p3.second;
      zone = p4.zone;
      is_century = p0.0;
      is_year = p1.0;
      is_clock = p2.is_clock;
      is_second = p3.is_second;
      is_zone = p4.is_zone;
      octets = p0.1 ∙ ap (λ z. two_digits century.0 ++ z) (p1.1 ∙ ap (λ z. two_digits year.0 ++ z) (p2.whole ∙ ap (λ z. clock_octets p2.clock ++ z) (p3.whole ∙ ap (λ z. second_octets p3.second ++ z) p4.whole)));
    })))

pub generalized_again : (i : List ℕ) → IsBerGeneralizedTime i → ends is_local (generalized_at i) ≡ true
unfolding generalized_at
generalized_again i t =
    let zone = local_octets t.zone in
    let second = second_octets t.second ++ zone in
    let clock = clock_octets t.clock ++ second in
    let year = two_digits t.year ++ clock in
    let p0 = pair_again t.century year t.is_century in
    let p1 = pair_again t.year clock t.is_year in
    let p2 = clock_again t.clock second t.is_clock in
    let p3 = exact_second_again t.second zone t.is_second (local_no_digit t.zone) (local_plain t.zone) in
    rw (t.octets, p0, p1, p2, p3) (local_again t.zone t.is_zone)
