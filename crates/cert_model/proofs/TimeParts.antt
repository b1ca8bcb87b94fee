-- Times: what is read of a tree is what its octets spell.
use Rattle.std.proofs.Common.{◌≡◌, ◌∙◌, sym, ap, refl, ℕ, ◌+◌, ◌*◌, ◌/◌, ◌%◌, ◌^◌, ◌<◌, ◌≤◌, ℤ, pos, negsuc, unsigned_abs, ◌≤ℤ◌, List, [], ◌∷◌, ◌++◌, Bool, true, false, ◌&&◌, nat_lt, nat_le, arith, Option, Some, None, subst, lit<}
use Rattle.std.proofs.lemmas.Option.{option_and_then_some}
use Rattle.std.proofs.lemmas.Bool.{eqb-true, ltb-true, lt-ltb}
use Rattle.std.proofs.lemmas.Bool.Decides.{nat_tests}
use Rattle.std.proofs.lemmas.Int.{ints}
use Rattle.jiff.specs.Words.{days_in_month}
use Rattle.asn1_core.specs.Elements.{Element, IsElement, element_octets}
use Rattle.asn1_core.proofs.StrictLaws.{one_element_lem}
use Rattle.der_tree.specs.Table.{utc_time, generalized_time, tag_of, Kind}
use Rattle.der_tree.specs.Time.{Moment, IsMoment, two_digits, after_year}
use Rattle.der_tree.specs.TimeReading.{pair_at, year_of, utc_at, generalized_at}
use Rattle.der_tree.proofs.TimeLemmas.{pair_found, pair_again, moment_found, moment_again, moment_writable}
use Rattle.der_tree.specs.Tree.{Tree, octets}
use Rattle.der_tree.specs.Shape.{IsObject}
use Rattle.der_tree.specs.Access.{plain_at, universal}
use Rattle.der_tree.proofs.Shapes.{plain_found, plain_only}
use Rattle.cert_model.specs.Fields.{CivilTime}
use Rattle.cert_model.specs.Octets.{primitive_octets, moment_in, time_octets}
use Rattle.cert_model.specs.Range.{IsTimeField}
use Rattle.cert_model.specs.Times.{is_real, civil_of, is_zulu, or_else, utc_time_at, late_time_at, time_at}
use Rattle.cert_model.proofs.Bounds.{whole_in}
use Rattle.cert_model.proofs.Cases.{chosen, both_true}
use Rattle.cert_model.proofs.Lists as read

-- the test of a real date and time

pub real_found : (m : Moment) → m.year < 10000 → is_real m ≡ true → IsMoment m
real_found m small p =
    let a = both_true (nat_le 1 m.month && nat_le m.month 12 && nat_le 1 m.day && nat_le m.day (days_in_month (pos m.year) m.month) && nat_lt m.hour 24 && nat_lt m.minute 60) (nat_lt m.second 60) p in
    let b = both_true (nat_le 1 m.month && nat_le m.month 12 && nat_le 1 m.day && nat_le m.day (days_in_month (pos m.year) m.month) && nat_lt m.hour 24) (nat_lt m.minute 60) a.0 in
    let c = both_true (nat_le 1 m.month && nat_le m.month 12 && nat_le 1 m.day && nat_le m.day (days_in_month (pos m.year) m.month)) (nat_lt m.hour 24) b.0 in
    let d = both_true (nat_le 1 m.month && nat_le m.month 12 && nat_le 1 m.day) (nat_le m.day (days_in_month (pos m.year) m.month)) c.0 in
    let e = both_true (nat_le 1 m.month && nat_le m.month 12) (nat_le 1 m.day) d.0 in
    let f = both_true (nat_le 1 m.month) (nat_le m.month 12) e.0 in
    let second : m.second < 60 = grind (arith, nat_tests) in
    let minute : m.minute < 60 = grind (arith, nat_tests) in
    let hour : m.hour < 24 = grind (arith, nat_tests) in
    let last : m.day ≤ days_in_month (pos m.year) m.month = grind (arith, nat_tests) in
    let first : 1 ≤ m.day = grind (arith, nat_tests) in
    let high : m.month ≤ 12 = grind (arith, nat_tests) in
    let low : 1 ≤ m.month = grind (arith, nat_tests) in (
      ((omega (arith, ints), omega (arith, ints)), (omega (arith, ints), omega (arith, ints)), (omega (arith, ints), omega (arith, ints))),
      ((omega (arith, ints), omega (arith, ints)), (omega (arith, ints), omega (arith, ints)), (omega (arith, ints), omega (arith, ints)), (omega (arith, ints), omega (arith, ints))),
    )

le_true : (m n : ℕ) → m ≤ n → nat_le m n ≡ true
le_true m n p = grind (arith, nat_tests)

pub real_only : (m : Moment) → IsMoment m → is_real m ≡ true
real_only m p =
    let low : nat_le 1 m.month ≡ true = le_true 1 m.month (omega (arith, ints)) in
    let high : nat_le m.month 12 ≡ true = le_true m.month 12 (omega (arith, ints)) in
    let first : nat_le 1 m.day ≡ true = le_true 1 m.day (omega (arith, ints)) in
    let last : nat_le m.day (days_in_month (pos m.year) m.month) ≡ true = le_true m.day (days_in_month (pos m.year) m.month) (omega (arith, ints)) in
    let hour : nat_lt m.hour 24 ≡ true = lt-ltb m.hour 24 (omega (arith, ints)) in
    let minute : nat_lt m.minute 60 ≡ true = lt-ltb m.minute 60 (omega (arith, ints)) in
    let second : nat_lt m.second 60 ≡ true = lt-ltb m.second 60 (omega (arith, ints)) in
    rw (low, high, first, last, hour, minute, second) refl

zulu_found : (s : List ℕ) → is_zulu s ≡ true → s ≡ 90 ∷ []
zulu_found [] e = cc
zulu_found (c ∷ []) e = ap (λ z. z ∷ []) (eqb-true c 90 e)
zulu_found (c ∷ d ∷ s) e = cc

-- UTCTime

years : (y : ℕ) → y < 100 → (1950 ≤ year_of y) × (year_of y < 2050) × (year_of y % 100 ≡ y)
years y p = (grind (arith, nat_tests), grind (arith, nat_tests), grind (arith, nat_tests))

year_again : (y : ℕ) → 1950 ≤ y → y < 2050 → year_of (y % 100) ≡ y
year_again y p q = grind (arith, nat_tests)

utc_spelled : (s : List ℕ) (m : Moment) (r : List ℕ) → utc_at s ≡ Some (m, r) → (1950 ≤ m.year) × (m.year < 2050) × (s ≡ two_digits (m.year % 100) ++ (after_year m ++ r))
unfolding utc_at
utc_spelled s m r e =
    option_and_then_some _ (pair_at s) (m, r) e (λ year e0 r0.
    let first = pair_found s year.0 year.1 e0 in
    let second = moment_found (year_of year.0) year.1 m r r0 in
    let all = years year.0 first.0 in
    let y : m.year % 100 ≡ year.0 = ap (λ n. n % 100) second.0 ∙ all.2 in
    (omega arith, omega arith, first.1 ∙ ap (λ n. two_digits n ++ year.1) (sym y) ∙ ap (λ z. two_digits (m.year % 100) ++ z) second.1))

utc_again : (m : Moment) (r : List ℕ) → IsMoment m → 1950 ≤ m.year → m.year < 2050 → utc_at (two_digits (m.year % 100) ++ (after_year m ++ r)) ≡ Some (m, r)
unfolding utc_at
utc_again m r p low high =
    let first = pair_again (m.year % 100) (after_year m ++ r) (omega arith) in
    let year = year_again m.year low high in
    let second = moment_again m r (moment_writable m p) in
    rw (first, year, second) refl

-- GeneralizedTime

general_spelled : (s : List ℕ) (m : Moment) (r : List ℕ) → generalized_at s ≡ Some (m, r) → (m.year < 10000) × (s ≡ two_digits (m.year / 100) ++ (two_digits (m.year % 100) ++ (after_year m ++ r)))
unfolding generalized_at
general_spelled s m r e =
    option_and_then_some _ (pair_at s) (m, r) e (λ century e0 r0.
    option_and_then_some _ (pair_at century.1) (m, r) r0 (λ year e1 r1.
    let first = pair_found s century.0 century.1 e0 in
    let second = pair_found century.1 year.0 year.1 e1 in
    let third = moment_found (century.0 * 100 + year.0) year.1 m r r1 in
    let high : m.year / 100 ≡ century.0 = omega (arith, third.0, first.0, second.0) in
    let low : m.year % 100 ≡ year.0 = omega (arith, third.0, first.0, second.0) in (
      omega (arith, third.0, first.0, second.0),
      first.1 ∙ ap (λ n. two_digits n ++ century.1) (sym high) ∙ ap (λ z. two_digits (m.year / 100) ++ z) (second.1 ∙ ap (λ n. two_digits n ++ year.1) (sym low) ∙ ap (λ z. two_digits (m.year % 100) ++ z) third.1),
    )))

general_again : (m : Moment) (r : List ℕ) → IsMoment m → generalized_at (two_digits (m.year / 100) ++ (two_digits (m.year % 100) ++ (after_year m ++ r))) ≡ Some (m, r)
unfolding generalized_at
general_again m r p =
    let w = moment_writable m p in
    let first = pair_again (m.year / 100) (two_digits (m.year % 100) ++ (after_year m ++ r)) (omega (arith, w.year)) in
    let second = pair_again (m.year % 100) (after_year m ++ r) (omega arith) in
    let year : m.year / 100 * 100 + m.year % 100 ≡ m.year = omega arith in
    let third = moment_again m r w in
    rw (first, second, year, third) refl

-- times

early : (t : CivilTime) → (moment_in t).year < 2050 → time_octets t ≡ primitive_octets 23 (two_digits ((moment_in t).year % 100) ++ after_year (moment_in t) ++ 90 ∷ [])
early t p = let test : nat_lt (moment_in t).year 2050 ≡ true = lt-ltb (moment_in t).year 2050 p in rw test refl

late : (t : CivilTime) → 2050 ≤ (moment_in t).year → time_octets t ≡ primitive_octets 24 (two_digits ((moment_in t).year / 100) ++ two_digits ((moment_in t).year % 100) ++ after_year (moment_in t) ++ 90 ∷ [])
late t p = let test : nat_lt (moment_in t).year 2050 ≡ false = grind (arith, nat_tests) in rw test refl

utc_time_found : (k : ℕ) (t : Tree) (c : CivilTime) → IsObject k t → utc_time_at t ≡ Some c → IsTimeField c × (time_octets c ≡ octets t)
unfolding utc_time_at
utc_time_found k t c p e =
    option_and_then_some _ (plain_at utc_time t) c e (λ s e0 r0.
    option_and_then_some _ (utc_at s) c r0 (λ m e1 r1.
    let test = chosen (is_zulu m.1 && is_real m.0) (civil_of m.0) c r1 in
    let tests = both_true (is_zulu m.1) (is_real m.0) test.0 in
    let spelled = utc_spelled s m.0 m.1 e1 in
    let read = plain_found k t utc_time s p e0 in
    let end = zulu_found m.1 tests.0 in
    let is : IsTimeField (civil_of m.0) = record {
      first = omega (arith, ints, spelled.0);
      last = omega (arith, ints, spelled.1);
      real = real_found m.0 (omega (arith, spelled.1)) tests.1;
      whole = refl;
    } in
    let content : s ≡ two_digits (m.0.year % 100) ++ after_year m.0 ++ 90 ∷ [] = spelled.2 ∙ ap (λ z. two_digits (m.0.year % 100) ++ (after_year m.0 ++ z)) end in
    let written : time_octets (civil_of m.0) ≡ octets t = early (civil_of m.0) spelled.1 ∙ ap (primitive_octets 23) (sym content) ∙ sym read.0.octets in
    (subst IsTimeField test.1 is, ap time_octets (sym test.1) ∙ written)))

late_time_found : (k : ℕ) (t : Tree) (c : CivilTime) → IsObject k t → late_time_at t ≡ Some c → IsTimeField c × (time_octets c ≡ octets t)
unfolding late_time_at
late_time_found k t c p e =
    option_and_then_some _ (plain_at generalized_time t) c e (λ s e0 r0.
    option_and_then_some _ (generalized_at s) c r0 (λ m e1 r1.
    let test = chosen (nat_le 2050 m.0.year && is_zulu m.1 && is_real m.0) (civil_of m.0) c r1 in
    let tests = both_true (nat_le 2050 m.0.year && is_zulu m.1) (is_real m.0) test.0 in
    let more = both_true (nat_le 2050 m.0.year) (is_zulu m.1) tests.0 in
    let spelled = general_spelled s m.0 m.1 e1 in
    let from : 2050 ≤ m.0.year = grind (arith, nat_tests) in
    let read = plain_found k t generalized_time s p e0 in
    let end = zulu_found m.1 more.1 in
    let is : IsTimeField (civil_of m.0) = record {
      first = omega (arith, ints, from);
      last = omega (arith, ints, spelled.0);
      real = real_found m.0 spelled.0 tests.1;
      whole = refl;
    } in
    let content : s ≡ two_digits (m.0.year / 100) ++ two_digits (m.0.year % 100) ++ after_year m.0 ++ 90 ∷ [] =
    spelled.1 ∙ ap (λ z. two_digits (m.0.year / 100) ++ (two_digits (m.0.year % 100) ++ (after_year m.0 ++ z))) end in
    let written : time_octets (civil_of m.0) ≡ octets t = late (civil_of m.0) from ∙ ap (primitive_octets 24) (sym content) ∙ sym read.0.octets in
    (subst IsTimeField test.1 is, ap time_octets (sym test.1) ∙ written)))

time_found_by : (k : ℕ) (t : Tree) (c : CivilTime) (o : Option CivilTime) → IsObject k t → utc_time_at t ≡ o → or_else o (late_time_at t) ≡ Some c → IsTimeField c × (time_octets c ≡ octets t)
time_found_by k t c (Some d) p u e = utc_time_found k t c p (u ∙ e)
time_found_by k t c None p u e = late_time_found k t c p e

pub time_found : (k : ℕ) (t : Tree) (c : CivilTime) → IsObject k t → time_at t ≡ Some c → IsTimeField c × (time_octets c ≡ octets t)
unfolding time_at
time_found k t c p e = time_found_by k t c (utc_time_at t) p refl e

-- what is no such element isn't read as one

-- an element that is not universal, not primitive, or of another tag number
pub record IsOther (j : Kind) (e : Element) : Type 0 where
  pub differs : (e.class ≡ 0) → (e.constructed ≡ false) → (e.tag ≡ tag_of j) → ⊥

plain_none : (k : ℕ) (t : Tree) (j : Kind) (e : Element) (o : Option (List ℕ)) → IsObject k t → IsElement e → octets t ≡ element_octets e → IsOther j e → plain_at j t ≡ o → o ≡ None
plain_none k t j e None p fits is other read = refl
plain_none k t j e (Some s) p fits is other read =
    let m = plain_found k t j s p read in
    let same = (one_element_lem e (universal false (tag_of j) s) [] [] fits m.0.in_range (ap (λ z. z ++ []) (sym is ∙ m.0.octets))).0 in
    absurd (other.differs (ap (λ (z : Element). z.class) same) (ap (λ (z : Element). z.constructed) same) (ap (λ (z : Element). z.tag) same))

pub plain_other : (k : ℕ) (t : Tree) (j : Kind) (e : Element) → IsObject k t → IsElement e → octets t ≡ element_octets e → IsOther j e → plain_at j t ≡ None
plain_other k t j e p fits is other = plain_none k t j e (plain_at j t) p fits is other refl

no_utc : (t : Tree) → plain_at utc_time t ≡ None → utc_time_at t ≡ None
unfolding utc_time_at
no_utc t e = rw e refl

no_late : (t : Tree) → plain_at generalized_time t ≡ None → late_time_at t ≡ None
unfolding late_time_at
no_late t e = rw e refl

-- an element that is not universal or has parts is no time
pub no_time : (k : ℕ) (t : Tree) (e : Element) → IsObject k t → IsElement e → octets t ≡ element_octets e → (e.class ≡ 0 → e.constructed ≡ false → ⊥) → time_at t ≡ None
unfolding time_at
no_time k t e p fits is other =
    let utc = no_utc t (plain_other k t utc_time e p fits is (record { differs = λ a b c. other a b })) in
    let late = no_late t (plain_other k t generalized_time e p fits is (record { differs = λ a b c. other a b })) in
    rw (utc, late) refl

abbrev with_year : CivilTime → ℤ → CivilTime
with_year c y = record c { year = y }

year_kept : (y : ℤ) → pos 1950 ≤ℤ y → pos (unsigned_abs y) ≡ y
year_kept (pos n) p = refl
year_kept (negsuc n) p = absurd (omega (arith, ints))

civil_again : (c : CivilTime) → IsTimeField c → civil_of (moment_in c) ≡ c
civil_again c p =
    ap (λ n. record (with_year c (pos (unsigned_abs c.year))) { nanosecond = n }) (sym p.whole) ∙ ap (with_year c) (year_kept c.year p.first)

years_in : (y : ℤ) → pos 1950 ≤ℤ y → y ≤ℤ pos 9999 → (1950 ≤ unsigned_abs y) × (unsigned_abs y ≤ 9999)
years_in (pos n) p q = (omega (arith, ints), omega (arith, ints))
years_in (negsuc n) p q = absurd (omega (arith, ints))

utc_time_only : (k : ℕ) (t : Tree) (c : CivilTime) → IsObject k t → IsTimeField c → (moment_in c).year < 2050 → time_octets c ≡ octets t → time_at t ≡ Some c
unfolding time_at utc_time_at
utc_time_only k t c p q small e =
    let m = moment_in c in
    let s = two_digits (m.year % 100) ++ (after_year m ++ 90 ∷ []) in
    let is : octets t ≡ element_octets (universal false 23 s) = sym e ∙ early c small in
    let fits = whole_in k t (universal false 23 s) p (lit< tt) (lit< tt) (sym is) in
    let read = plain_only k t utc_time s p fits is in
    let range = years_in c.year q.first q.last in
    let digits = utc_again m (90 ∷ []) q.real range.0 small in
    let real = real_only m q.real in
    rw (read.0, digits, real) (ap Some (civil_again c q))

late_time_only : (k : ℕ) (t : Tree) (c : CivilTime) → IsObject k t → IsTimeField c → 2050 ≤ (moment_in c).year → time_octets c ≡ octets t → time_at t ≡ Some c
unfolding time_at late_time_at
late_time_only k t c p q large e =
    let m = moment_in c in
    let s = two_digits (m.year / 100) ++ (two_digits (m.year % 100) ++ (after_year m ++ 90 ∷ [])) in
    let is : octets t ≡ element_octets (universal false 24 s) = sym e ∙ late c large in
    let fits = whole_in k t (universal false 24 s) p (lit< tt) (lit< tt) (sym is) in
    let utc = no_utc t (plain_other k t utc_time (universal false 24 s) p fits is (record { differs = λ a b c. omega (arith, c) })) in
    let read = plain_only k t generalized_time s p fits is in
    let digits = general_again m (90 ∷ []) q.real in
    let real = real_only m q.real in
    let from : nat_le 2050 m.year ≡ true = le_true 2050 m.year large in
    rw (utc, read.0, digits, from, real) (ap Some (civil_again c q))

time_only_by : (b : Bool) (k : ℕ) (t : Tree) (c : CivilTime) → nat_lt (moment_in c).year 2050 ≡ b → IsObject k t → IsTimeField c → time_octets c ≡ octets t → time_at t ≡ Some c
time_only_by true k t c test p q e = utc_time_only k t c p q (ltb-true (moment_in c).year 2050 test) e
time_only_by false k t c test p q e = late_time_only k t c p q (grind (arith, nat_tests)) e

pub time_only : (k : ℕ) (t : Tree) (c : CivilTime) → IsObject k t → IsTimeField c → time_octets c ≡ octets t → time_at t ≡ Some c
time_only k t c p q e = time_only_by (nat_lt (moment_in c).year 2050) k t c refl p q e

time_element_by : (b : Bool) (c : CivilTime) → nat_lt (moment_in c).year 2050 ≡ b → (e : Element) × (e.class < 4) × (e.tag < 2 ^ 32) × (time_octets c ≡ element_octets e)
time_element_by true c test =
    let m = moment_in c in
    (universal false 23 (two_digits (m.year % 100) ++ after_year m ++ 90 ∷ []), lit< tt, lit< tt, early c (ltb-true m.year 2050 test))
time_element_by false c test =
    let m = moment_in c in
    (universal false 24 (two_digits (m.year / 100) ++ two_digits (m.year % 100) ++ after_year m ++ 90 ∷ []), lit< tt, lit< tt, late c (grind (arith, nat_tests)))

time_element : (c : CivilTime) → IsTimeField c → (e : Element) × (e.class < 4) × (e.tag < 2 ^ 32) × (time_octets c ≡ element_octets e)
time_element c p = time_element_by (nat_lt (moment_in c).year 2050) c refl

abbrev pub times : read.Kind CivilTime
times = record { bytes = time_octets; read = time_at }

pub time_laws : read.IsKind CivilTime times IsTimeField
time_laws = record { element = time_element; found = time_found; only = time_only }

not_real_by : (b : Bool) (m : Moment) → is_real m ≡ b → m.year < 10000 → (IsMoment m → ⊥) → is_real m ≡ false
not_real_by true m test small unreal = absurd (unreal (real_found m small test))
not_real_by false m test small unreal = test

pub not_real : (m : Moment) → m.year < 10000 → (IsMoment m → ⊥) → is_real m ≡ false
not_real m small unreal = not_real_by (is_real m) m refl small unreal
