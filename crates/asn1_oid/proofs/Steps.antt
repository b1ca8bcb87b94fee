-- One octet of the readers' functions, by its index.
use Rattle.std.proofs.Common.{◌≡◌, ◌≢◌, ℕ, ◌+◌, ◌^◌, ◌<◌, ◌≤◌, ◌⊎◌, Bool, true, false, not, ◌&&◌, ◌||◌, List, [], ◌∷◌, length, get_or, drop, refl, sym, ◌∙◌, add-one, drop-cons, inl, inr, arith}
use Rattle.std.specs.Prelude.{nat_lt, nat_le, ◌==◌, count_by, cond}
use Rattle.std.proofs.lemmas.Bool.{eq-eqb, ne_eqb, not_from_false, le-ltb, lt-ltb, ltb-true, eqb-true, and_parts, cases_Bool, cases_lt}
use Rattle.std.proofs.lemmas.List.{drop_all}
use Rattle.std.proofs.lemmas.List.Sums.{sum_by-cons}
use Rattle.asn1_oid.specs.Reading.{pushed, is_strict_after, is_small_after, numbers_after}
use Rattle.asn1_oid.proofs.WrittenRead.{small-last, small-more}

drop_here : (i : ℕ) (octets : List ℕ) → i < length octets → drop i octets ≡ get_or octets i 0 ∷ drop (i + 1) octets
drop_here i octets within = rw (add-one) (drop-cons octets i 0 within)

pub strict-end : (within : Bool) (i : ℕ) (octets : List ℕ) → length octets ≤ i → is_strict_after within (drop i octets) ≡ not within
unfolding is_strict_after
strict-end within i octets end = rw (drop_all i octets end)

allowed_then : (within rest : Bool) → ((within || true) && rest) ≡ rest
allowed_then true rest = refl
allowed_then false rest = refl

pub strict-step : (within : Bool) (i : ℕ) (octets : List ℕ) → i < length octets → (within ≡ true) ⊎ (get_or octets i 0 ≢ 128)
    → is_strict_after within (drop i octets) ≡ is_strict_after (nat_le 128 (get_or octets i 0)) (drop (i + 1) octets)
unfolding is_strict_after
strict-step within i octets here allowed = rw (drop_here i octets here) (elim allowed [
  | inl inside ↦ rw inside refl
  | inr other ↦ rw (not_from_false _ (ne_eqb (get_or octets i 0) 128 other)) (allowed_then within _)
])

pub strict-stops : (i : ℕ) (octets : List ℕ) → i < length octets → get_or octets i 0 ≡ 128 → is_strict_after false (drop i octets) ≡ false
unfolding is_strict_after
strict-stops i octets here is = rw (drop_here i octets here, eq-eqb (get_or octets i 0) 128 is)

pub small-end : (n i : ℕ) (octets : List ℕ) → length octets ≤ i → is_small_after n (drop i octets) ≡ (n == 0)
unfolding is_small_after
small-end n i octets end = rw (drop_all i octets end)

pub small-step_last : (n i : ℕ) (octets : List ℕ) → i < length octets → get_or octets i 0 < 128 → pushed n (get_or octets i 0) < 2 ^ 64
    → is_small_after n (drop i octets) ≡ is_small_after 0 (drop (i + 1) octets)
small-step_last n i octets here low fits = rw (drop_here i octets here) (small-last n (get_or octets i 0) (drop (i + 1) octets) low fits)

pub small-step_more : (n i : ℕ) (octets : List ℕ) → i < length octets → 128 ≤ get_or octets i 0 → pushed n (get_or octets i 0) < 2 ^ 64
    → 0 < pushed n (get_or octets i 0) → is_small_after n (drop i octets) ≡ is_small_after (pushed n (get_or octets i 0)) (drop (i + 1) octets)
small-step_more n i octets here more fits above = rw (drop_here i octets here) (small-more n (get_or octets i 0) (drop (i + 1) octets) more fits above)

pub small-stops : (n i : ℕ) (octets : List ℕ) → i < length octets → 2 ^ 64 ≤ pushed n (get_or octets i 0) → is_small_after n (drop i octets) ≡ false
unfolding is_small_after
small-stops n i octets here large = rw (drop_here i octets here, le-ltb (pushed n (get_or octets i 0)) (2 ^ 64) large)

pub small-begins : (n i : ℕ) (octets : List ℕ) → i < length octets → 128 ≤ get_or octets i 0 → pushed n (get_or octets i 0) ≡ 0
    → is_small_after n (drop i octets) ≡ false
unfolding is_small_after
small-begins n i octets here more none = rw (drop_here i octets here, none, le-ltb (get_or octets i 0) 128 more)

-- ---- the first octet

-- a number ends with each octet below 128
pub length-numbers_after : (n : ℕ) (octets : List ℕ) → count_by (λ octet. nat_lt octet 128) octets ≡ length (numbers_after n octets)
unfolding numbers_after
length-numbers_after n [] = refl
length-numbers_after n (octet ∷ rest) =
    sum_by-cons (λ (o : ℕ). cond (nat_lt o 128) 1 0) octet rest ∙ elim (cases_Bool (nat_lt octet 128)) [
      | inl low ↦ rw low (omega (arith, length-numbers_after 0 rest))
      | inr more ↦ rw more (omega (arith, length-numbers_after (pushed n octet) rest))
    ]

-- what the first octet of small ones says
pub small_fits : (n octet : ℕ) (rest : List ℕ) → is_small_after n (octet ∷ rest) ≡ true → pushed n octet < 2 ^ 64
unfolding is_small_after
small_fits n octet rest small = ltb-true (pushed n octet) (2 ^ 64) (and_parts (nat_lt (pushed n octet) (2 ^ 64)) _ small).0

pub small_last : (n octet : ℕ) (rest : List ℕ) → is_small_after n (octet ∷ rest) ≡ true → octet < 128 → is_small_after 0 rest ≡ true
small_last n octet rest small low = sym (small-last n octet rest low (small_fits n octet rest small)) ∙ small

pub small_above : (n octet : ℕ) (rest : List ℕ) → is_small_after n (octet ∷ rest) ≡ true → 128 ≤ octet → 0 < pushed n octet
unfolding is_small_after
small_above n octet rest small more =
    let later = (and_parts (nat_lt (pushed n octet) (2 ^ 64)) _ small).1 in
    let both = rw (le-ltb octet 128 more) at later in
    ltb-true 0 (pushed n octet) (and_parts (nat_lt 0 (pushed n octet)) _ both).0

pub small_more : (n octet : ℕ) (rest : List ℕ) → is_small_after n (octet ∷ rest) ≡ true → 128 ≤ octet → is_small_after (pushed n octet) rest ≡ true
small_more n octet rest small more =
    sym (small-more n octet rest more (small_fits n octet rest small) (small_above n octet rest small more)) ∙ small

pub numbers_last : (n octet : ℕ) (rest : List ℕ) → octet < 128 → numbers_after n (octet ∷ rest) ≡ pushed n octet ∷ numbers_after 0 rest
unfolding numbers_after
numbers_last n octet rest low = rw (lt-ltb octet 128 low)

pub numbers_more : (n octet : ℕ) (rest : List ℕ) → 128 ≤ octet → numbers_after n (octet ∷ rest) ≡ numbers_after (pushed n octet) rest
unfolding numbers_after
numbers_more n octet rest more = rw (le-ltb octet 128 more)

-- small octets with no number are none
pub no_number : (n : ℕ) (octets : List ℕ) → is_small_after n octets ≡ true → numbers_after n octets ≡ [] → (n ≡ 0) × (octets ≡ [])
unfolding is_small_after numbers_after
no_number n [] small none = (eqb-true n 0 small, refl)
no_number n (octet ∷ rest) small none = elim (cases_lt octet 128) [
  | inl low ↦ let some = numbers_last n octet rest low in cc
  | inr more ↦
      let later = no_number (pushed n octet) rest (small_more n octet rest small more) (sym (numbers_more n octet rest more) ∙ none) in
      let above = small_above n octet rest small more in
      absurd (omega arith)
]
