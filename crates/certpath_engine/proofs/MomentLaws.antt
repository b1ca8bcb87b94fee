-- The steps find what a text writes, and nothing else.
use Rattle.std.proofs.Common.{◌≡◌, ◌∙◌, sym, ap, refl, ℕ, ◌+◌, ◌*◌, ◌/◌, ◌%◌, ◌<◌, ◌==◌, ◌&&◌, List, [], ◌∷◌, ◌++◌, Bool, true, false, if◌then◌else◌, arith, Option, Some, None, IfSome, IsSomeAnd, append_assoc}
use Rattle.std.specs.Option.{option_map}
use Rattle.std.proofs.lemmas.List.{append-nil}
use Rattle.std.proofs.lemmas.Option.{option_and_then_some}
use Rattle.std.proofs.lemmas.Bool.{eqb-true}
use Rattle.std.proofs.lemmas.Int.{ints}
use Rattle.der_tree.specs.Time.{Moment, IsMoment, two_digits}
use Rattle.der_tree.specs.TimeReading.{pair_at, IsWritable}
use Rattle.der_tree.proofs.TimeLemmas.{pair_found, pair_again, moment_writable}
use Rattle.cert_model.specs.Fields.{CivilTime}
use Rattle.cert_model.specs.Times.{is_real, civil_of}
use Rattle.cert_model.proofs.TimeParts.{real_found, real_only}
use Rattle.certpath_engine.specs.Moments.{moment_text, WritesMoment}
use Rattle.certpath_engine.specs.MomentReading.{part_at, text_at, is_end, moment_in}

if_same : {A : Type 0} (b : Bool) (o : Option A) (y : A) → (if b then o else None) ≡ Some y → (b ≡ true) × (o ≡ Some y)
if_same true o y e = (refl, e)
if_same false o y e = cc

if_told : {A : Type 0} (b : Bool) (x y : A) → (if b then Some x else None) ≡ Some y → (b ≡ true) × (x ≡ y)
if_told true x y e = (refl, cc)
if_told false x y e = cc

both_true : (a b : Bool) → (a && b) ≡ true → (a ≡ true) × (b ≡ true)
both_true true b p = (refl, p)
both_true false b p = cc

part_found : (separator : ℕ) (i : List ℕ) (n : ℕ) (r : List ℕ) → part_at separator i ≡ Some (n, r) → (n < 100) × (i ≡ (separator ∷ two_digits n) ++ r)
part_found separator [] n r e = cc
part_found separator (first ∷ rest) n r e =
    let h = if_same (first == separator) (pair_at rest) (n, r) e in
    let p = pair_found rest n r h.1 in
    (p.0, ap (λ z. z ∷ rest) (eqb-true first separator h.0) ∙ ap (λ z. separator ∷ z) p.1)

same_octet : (n : ℕ) → (n == n) ≡ true
same_octet n = grind arith

part_again : (separator n : ℕ) (r : List ℕ) → n < 100 → part_at separator ((separator ∷ two_digits n) ++ r) ≡ Some (n, r)
part_again separator n r p = rw (same_octet separator) (pair_again n r p)

some_is : {A : Type 0} (x y : A) → Some x ≡ Some y → x ≡ y
some_is x y e = cc

abbrev behind : Moment → List ℕ → List ℕ
behind m r = (45 ∷ two_digits m.month) ++ ((45 ∷ two_digits m.day) ++ ((84 ∷ two_digits m.hour) ++ ((58 ∷ two_digits m.minute) ++ ((58 ∷ two_digits m.second) ++ r))))

abbrev spelled : Moment → List ℕ → List ℕ
spelled m r = two_digits (m.year / 100) ++ (two_digits (m.year % 100) ++ behind m r)

text_found : (s : List ℕ) (m : Moment) (r : List ℕ) → text_at s ≡ Some (m, r) → (m.year < 10000) × (s ≡ spelled m r)
unfolding text_at
text_found s m r e =
    option_and_then_some _ (pair_at s) (m, r) e (λ century e0 r0.
    option_and_then_some _ (pair_at century.1) (m, r) r0 (λ year e1 r1.
    option_and_then_some _ (part_at 45 year.1) (m, r) r1 (λ month e2 r2.
    option_and_then_some _ (part_at 45 month.1) (m, r) r2 (λ day e3 r3.
    option_and_then_some _ (part_at 84 day.1) (m, r) r3 (λ hour e4 r4.
    option_and_then_some _ (part_at 58 hour.1) (m, r) r4 (λ minute e5 r5.
    option_and_then_some _ (part_at 58 minute.1) (m, r) r5 (λ second e6 r6.
    let told : (Moment × List ℕ) = (record { year = century.0 * 100 + year.0; month = month.0; day = day.0; hour = hour.0; minute = minute.0; second = second.0 }, second.1) in
    let is : told ≡ (m, r) = some_is told (m, r) r6 in
    let p0 = pair_found s century.0 century.1 e0 in
    let p1 = pair_found century.1 year.0 year.1 e1 in
    let p2 = part_found 45 year.1 month.0 month.1 e2 in
    let p3 = part_found 45 month.1 day.0 day.1 e3 in
    let p4 = part_found 84 day.1 hour.0 hour.1 e4 in
    let p5 = part_found 58 hour.1 minute.0 minute.1 e5 in
    let p6 = part_found 58 minute.1 second.0 second.1 e6 in
    let high : (century.0 * 100 + year.0) / 100 ≡ century.0 = omega (arith, p0.0, p1.0) in
    let low : (century.0 * 100 + year.0) % 100 ≡ year.0 = omega (arith, p0.0, p1.0) in
    let octets : s ≡ spelled told.0 told.1 =
    p0.1 ∙ ap (λ z. two_digits century.0 ++ z) (p1.1 ∙ ap (λ z. two_digits year.0 ++ z) (p2.1 ∙ ap (λ z. (45 ∷ two_digits month.0) ++ z) (p3.1 ∙ ap (λ z. (45 ∷ two_digits day.0) ++ z)
    (p4.1 ∙ ap (λ z. (84 ∷ two_digits hour.0) ++ z) (p5.1 ∙ ap (λ z. (58 ∷ two_digits minute.0) ++ z) p6.1)))))
    ∙ ap (λ n. two_digits n ++ (two_digits year.0 ++ behind told.0 told.1)) (sym high) ∙ ap (λ n. two_digits ((century.0 * 100 + year.0) / 100) ++ (two_digits n ++ behind told.0 told.1)) (sym low) in
    (omega (arith, p0.0, p1.0, ap (λ (z : Moment × List ℕ). z.0.year) is), octets ∙ ap (λ (z : Moment × List ℕ). spelled z.0 z.1) is))))))))

text_again : (m : Moment) (r : List ℕ) → IsWritable m → text_at (spelled m r) ≡ Some (m, r)
unfolding text_at
text_again m r w =
    let high = pair_again (m.year / 100) (two_digits (m.year % 100) ++ behind m r) (omega (arith, w.year)) in
    let low = pair_again (m.year % 100) (behind m r) (omega arith) in
    let month = part_again 45 m.month ((45 ∷ two_digits m.day) ++ ((84 ∷ two_digits m.hour) ++ ((58 ∷ two_digits m.minute) ++ ((58 ∷ two_digits m.second) ++ r)))) w.month in
    let day = part_again 45 m.day ((84 ∷ two_digits m.hour) ++ ((58 ∷ two_digits m.minute) ++ ((58 ∷ two_digits m.second) ++ r))) w.day in
    let hour = part_again 84 m.hour ((58 ∷ two_digits m.minute) ++ ((58 ∷ two_digits m.second) ++ r)) w.hour in
    let minute = part_again 58 m.minute ((58 ∷ two_digits m.second) ++ r) w.minute in
    let second = part_again 58 m.second r w.second in
    let year : m.year / 100 * 100 + m.year % 100 ≡ m.year = omega arith in
    rw (high, low, month, day, hour, minute, second, year) refl

text_is : (m : Moment) → moment_text m ≡ spelled m []
text_is m = refl

ends : (r : List ℕ) → is_end r ≡ true → r ≡ []
ends [] e = refl
ends (x ∷ xs) e = cc

writes : (s : List ℕ) (t : CivilTime) → moment_in s ≡ Some t → WritesMoment s t
unfolding moment_in
writes s t e =
    option_and_then_some _ (text_at s) t e (λ m e0 r0.
    let h = if_told (is_end m.1 && is_real m.0) (civil_of m.0) t r0 in
    let both = both_true (is_end m.1) (is_real m.0) h.0 in
    let found = text_found s m.0 m.1 e0 in
    record {
      moment = m.0;
      is_moment = real_found m.0 found.0 both.1;
      text_is = found.1 ∙ ap (λ r. spelled m.0 r) (ends m.1 both.0);
      told = sym h.1;
    })

written : (s : List ℕ) (t : CivilTime) → WritesMoment s t → moment_in s ≡ Some t
unfolding moment_in
written s t w =
    let m = w.moment in
    let read : text_at s ≡ Some (m, []) = ap text_at w.text_is ∙ text_again m [] (moment_writable m w.is_moment) in
    let real = real_only m w.is_moment in
    rw (read, real) (ap Some (sym w.told))

pub found_in : {D : Type 0} (view : D → CivilTime) (s : List ℕ) (o : Option D) → option_map view o ≡ moment_in s → IfSome o (λ d. WritesMoment s (view d))
found_in view s (Some d) e = writes s (view d) (sym e)
found_in view s None e = tt

pub only_in : {D : Type 0} (view : D → CivilTime) (s : List ℕ) (o : Option D) → option_map view o ≡ moment_in s → (t : CivilTime) → WritesMoment s t → IsSomeAnd o (λ d. view d ≡ t)
only_in view s (Some d) e = λ t w. some_is (view d) t (e ∙ written s t w)
only_in view s None e = λ t w. let bad = e ∙ written s t w in cc
