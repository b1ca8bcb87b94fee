-- What DER takes of GeneralizedTimes is what is written.
use Rattle.std.proofs.Common.{◌≡◌, ◌∙◌, sym, ap, refl, subst, inl, inr, arith, ◌+◌, ◌/◌, ◌%◌, ◌≤◌, ◌==◌, ℕ, Bool, true, false, if◌then◌else◌, List, [], ◌∷◌, ◌++◌, length, length-append, Option, Some, None, ◌↔◌}
use Rattle.std.proofs.lemmas.List.{append_assoc, append-nil}
use Rattle.asn1_times.specs.Fields.{two_digits, fraction_octets, sign_octet, zone_octets, SpellsSeconds, SpellsZone}
use Rattle.asn1_times.specs.GeneralizedTimes.{four_digits, IsGeneralizedTime, generalized_octets, GeneralizedMeans, HasSecondsAndZ}
use Rattle.asn1_times.specs.GeneralizedLaws.{generalized_fits}
use Rattle.asn1_times.specs.declared.datetime.ASN1DateTime.{ASN1DateTime}
use Rattle.asn1_times.specs.declared.datetime.ASN1TimeZone.{ASN1TimeZone}
use Rattle.asn1_times.specs.declared.datetime.ASN1TimeZone.TheVariants as zones

abbrev last_octet : List ℕ → ℕ
last_octet [] = 0
last_octet (x ∷ []) = x
last_octet (x ∷ y ∷ ys) = last_octet (y ∷ ys)

last_behind : (xs : List ℕ) (y : ℕ) (ys : List ℕ) → last_octet (xs ++ y ∷ ys) ≡ last_octet (y ∷ ys)
last_behind [] y ys = refl
last_behind (x ∷ []) y ys = refl
last_behind (x ∷ z ∷ xs) y ys = last_behind (z ∷ xs) y ys

-- octets that end in a digit don't end in Z
no_digit_last : (xs front : List ℕ) (n : ℕ) → xs ++ (48 + n % 10) ∷ [] ≡ front ++ 90 ∷ [] → ⊥
no_digit_last xs front n e =
    let same : 48 + n % 10 ≡ 90 = sym (last_behind xs (48 + n % 10) []) ∙ ap last_octet e ∙ last_behind front 90 [] in
    omega (arith, same)

-- digits of thousandths end in a digit
abbrev EndsInDigit : List ℕ → Type 0
EndsInDigit s = (ys : List ℕ) × (n : ℕ) × (s ≡ ys ++ (48 + n % 10) ∷ [])

digit_by : (b c : Bool) (n : ℕ) → EndsInDigit (if b then (48 + n / 100 % 10) ∷ [] else (if c then two_digits (n / 10) else (48 + n / 100 % 10) ∷ two_digits n))
digit_by true c n = ([], n / 100, refl)
digit_by false true n = ((48 + n / 10 / 10 % 10) ∷ [], n / 10, refl)
digit_by false false n = ((48 + n / 100 % 10) ∷ (48 + n / 10 % 10) ∷ [], n, refl)

-- seconds and a fraction end in a digit
seconds_digit : (second : ℕ) (m : Option ℕ) → EndsInDigit (two_digits second ++ fraction_octets m)
seconds_digit second None = ((48 + second / 10 % 10) ∷ [], second, refl)
seconds_digit second (Some n) =
    let d = digit_by (n % 100 == 0) (n % 10 == 0) n in
    (two_digits second ++ 46 ∷ d.0, d.1, ap (λ z. two_digits second ++ 46 ∷ z) d.2)

no_offset : (xs front : List ℕ) (a b c d n : ℕ) → xs ++ a ∷ b ∷ c ∷ d ∷ (48 + n % 10) ∷ [] ≡ front ++ 90 ∷ [] → ⊥
no_offset xs front a b c d n e =
    let tail = a ∷ b ∷ c ∷ d ∷ [] in
    let same : 48 + n % 10 ≡ 90 = sym (last_behind xs a (b ∷ c ∷ d ∷ (48 + n % 10) ∷ [])) ∙ ap last_octet e ∙ last_behind front 90 [] in
    omega (arith, same)

-- the zone is Z, and the seconds are there
zone_z : (xs s : List ℕ) (second : ℕ) (m : Option ℕ) (z : ASN1TimeZone) (front : List ℕ) → length xs ≡ 10 → (n : ℕ) → SpellsSeconds s second m → 14 ≤ length front →
    xs ++ (two_digits n ++ (s ++ zone_octets z)) ≡ front ++ 90 ∷ [] → (z ≡ zones.Z) × (s ≡ two_digits second ++ fraction_octets m)
zone_z xs s second m (zones.Offset h k) front size n spelled long e =
    absurd (no_offset (xs ++ (two_digits n ++ s)) front (sign_octet h k) _ _ _ _ (append_assoc xs (two_digits n ++ s) (zone_octets (zones.Offset h k)) ∙ e))
zone_z xs s second m zones.Undefined front size n (inl is) long e =
    let d = seconds_digit second m in
    absurd (no_digit_last (xs ++ (two_digits n ++ d.0)) front d.1 (append_assoc xs (two_digits n ++ d.0) ((48 + d.1 % 10) ∷ [])
    ∙ ap (λ z. xs ++ (two_digits n ++ z)) (sym (is ∙ d.2)) ∙ ap (λ z. xs ++ (two_digits n ++ z)) (sym (append-nil s)) ∙ e))
zone_z xs s second m zones.Undefined front size n (inr is) long e =
    absurd (no_digit_last (xs ++ (48 + n / 10 % 10) ∷ []) front n (append_assoc xs ((48 + n / 10 % 10) ∷ []) ((48 + n % 10) ∷ [])
    ∙ ap (λ z. xs ++ (two_digits n ++ (z ++ []))) (sym is.0) ∙ e))
zone_z xs s second m zones.Z front size n (inl is) long e = (refl, is)
zone_z xs s second m zones.Z front size n (inr is) long e =
    let whole : xs ++ (two_digits n ++ 90 ∷ []) ≡ front ++ 90 ∷ [] = ap (λ z. xs ++ (two_digits n ++ (z ++ 90 ∷ []))) (sym is.0) ∙ e in
    let count : length xs + 3 ≡ length front + 1 = sym (length-append xs (two_digits n ++ 90 ∷ [])) ∙ ap length whole ∙ length-append front (90 ∷ []) in
    absurd (omega (arith, count, size, long))

der_by : (content : List ℕ) (t : ASN1DateTime) → HasSecondsAndZ content → (q : GeneralizedMeans content t) → SpellsZone q.spelled.zone t.tz →
    IsGeneralizedTime t × (content ≡ generalized_octets t)
der_by content t p q (inl zone) =
    let s = q.spelled in
    let xs = four_digits t.year ++ two_digits t.month ++ two_digits t.day ++ two_digits t.hour in
    let e : xs ++ (two_digits t.minute ++ (s.seconds ++ zone_octets t.tz)) ≡ p.front ++ 90 ∷ [] =
    ap (λ z. xs ++ (two_digits t.minute ++ (s.seconds ++ z))) (sym zone) ∙ sym s.octets ∙ p.octets in
    let r = zone_z xs s.seconds t.second t.millisecond t.tz p.front refl t.minute s.seconds_spelled p.seconds e in (
      record { fields = q.fields; universal = r.0 },
      s.octets ∙ ap (λ z. xs ++ (two_digits t.minute ++ (z ++ s.zone))) r.1
          ∙ ap (λ z. xs ++ (two_digits t.minute ++ ((two_digits t.second ++ fraction_octets t.millisecond) ++ z))) zone,
    )
der_by content t p q (inr zone) =
    let s = q.spelled in
    let xs = four_digits t.year ++ two_digits t.month ++ two_digits t.day ++ two_digits t.hour ++ two_digits t.minute in
    let e : (xs ++ s.seconds) ++ 45 ∷ 48 ∷ 48 ∷ 48 ∷ 48 ∷ [] ≡ p.front ++ 90 ∷ [] = ap (λ z. (xs ++ s.seconds) ++ z) (sym zone.0) ∙ sym s.octets ∙ p.octets in
    absurd (no_offset (xs ++ s.seconds) p.front 45 48 48 48 0 e)

pub der_only : (content : List ℕ) (t : ASN1DateTime) → HasSecondsAndZ content → GeneralizedMeans content t → IsGeneralizedTime t × (content ≡ generalized_octets t)
der_only content t p q = der_by content t p q q.spelled.zone_spelled

pub der_written : (content : List ℕ) (t : ASN1DateTime) → IsGeneralizedTime t → content ≡ generalized_octets t → HasSecondsAndZ content × GeneralizedMeans content t
der_written content t is e =
    let both = generalized_fits t is in
    (subst HasSecondsAndZ (sym e) both.0, subst (λ c. GeneralizedMeans c t) (sym e) both.1)

pub der_generalized : (content : List ℕ) (t : ASN1DateTime) → (HasSecondsAndZ content × GeneralizedMeans content t) ↔ (IsGeneralizedTime t × (content ≡ generalized_octets t))
der_generalized content t = (λ p. der_only content t p.0 p.1, λ p. der_written content t p.0 p.1)
