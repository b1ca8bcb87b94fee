-- What the reading of lengths accepts.
use Rattle.std.proofs.Common.{◌≡◌, ◌≢◌, ℕ, ◌+◌, ◌-◌, ◌^◌, ◌<◌, ◌≤◌, ◌==◌, nat_lt, true, false, Option, Some, None, List, [], ◌∷◌, ◌++◌, length, take, drop, Ok, inl, inr, refl, sym, ap, ap₂, ◌∙◌, subst, arith, lt-ltb, le-ltb, ltb-true, ltb-false, eqb-true, ne_eqb, length-append, length-take-le, take-append-drop}
use Rattle.std.proofs.Math.Seq.{take-append_seam, drop-append_seam}
use Rattle.std.specs.Int.Digits.{number_from_digits, AllBelowBase}
use Rattle.std.proofs.lemmas.Bool.{eqb-false}
use Rattle.asn1_core.specs.Digits.{AreDigits}
use Rattle.asn1_core.specs.Lenient.{SpellsLength}
use Rattle.asn1_core.specs.Reading.{size_at, length_at}
use Rattle.asn1_core.proofs.Cases.{chosen, same_answer}
use Rattle.asn1_core.proofs.Numbers.{take_below}

-- a length at the front, with what it says; none is the octet 80
abbrev pub IsMeasured : List ℕ → Option ℕ → List ℕ → Type 0
IsMeasured octets (Some n) rest = (n < 2 ^ 64) × ((front : List ℕ) × SpellsLength front n × (octets ≡ front ++ rest))
IsMeasured octets None rest = octets ≡ 128 ∷ rest

-- digits that were read are as many as the first octet counts
record IsSized (count : ℕ) (octets : List ℕ) (size : Option ℕ) (rest : List ℕ) : Type 0 where
  pub enough : count ≤ length octets
  pub number : ℕ
  pub is : size ≡ Some number
  pub small : number < 2 ^ 64
  pub value : number_from_digits 256 (take count octets) ≡ number
  pub after : rest ≡ drop count octets

size_found : (count : ℕ) (octets : List ℕ) (size : Option ℕ) (rest : List ℕ) → size_at count octets ≡ Ok (size, rest) → IsSized count octets size rest
unfolding size_at
size_found count octets size rest read =
    elim (chosen (nat_lt (length octets) count) _ _ _ read) [
      | inl short ↦ cc
      | inr enough ↦ elim (chosen (nat_lt (number_from_digits 256 (take count octets)) (2 ^ 64)) _ _ _ enough.1) [
        | inl fits ↦
            let done = same_answer (Some (number_from_digits 256 (take count octets))) size (drop count octets) rest fits.1 in
            record {
              enough = ltb-false _ _ enough.0;
              number = number_from_digits 256 (take count octets);
              is = sym done.0;
              small = ltb-true _ _ fits.0;
              value = refl;
              after = sym done.1;
            }
        | inr large ↦ cc
      ]
    ]

long_found : (octet : ℕ) (os : List ℕ) (size : Option ℕ) (rest : List ℕ) → 128 ≤ octet → octet ≢ 128 → octet ≢ 255 → octet < 256
    → AllBelowBase 256 os → IsSized (octet - 128) os size rest → IsMeasured (octet ∷ os) size rest
long_found octet os size rest high definite used byte below sized =
    let count = octet - 128 in
    let ds = take count os in
    let many : length ds ≡ count = length-take-le count os sized.enough in
    let some : ds ≢ [] = λ e. let none : length ds ≡ 0 = ap length e in omega arith in
    let are : AreDigits 256 ds sized.number = record { some = some; below = take_below 256 count os below; value = sized.value } in
    let first : octet ≡ 128 + length ds = omega arith in
    let split : os ≡ ds ++ rest = sym (take-append-drop count os) ∙ ap (λ r. ds ++ r) (sym sized.after) in
    let here : IsMeasured (octet ∷ os) (Some sized.number) rest =
    (sized.small, ((128 + length ds) ∷ ds, inr (ds, are, omega arith, refl), ap₂ (λ o r. o ∷ r) first split)) in
    subst (λ s. IsMeasured (octet ∷ os) s rest) (sym sized.is) here

pub length_found : (octets : List ℕ) (size : Option ℕ) (rest : List ℕ) → AllBelowBase 256 octets → length_at octets ≡ Ok (size, rest) → IsMeasured octets size rest
unfolding length_at
length_found [] size rest below read = cc
length_found (octet ∷ os) size rest below read =
    elim (chosen (nat_lt octet 128) _ _ _ read) [
      | inl short ↦
          let done = same_answer (Some octet) size os rest short.1 in
          let small = ltb-true _ _ short.0 in
          let here : IsMeasured (octet ∷ os) (Some octet) rest = (omega arith, (octet ∷ [], inl (small, refl), ap (λ r. octet ∷ r) done.1)) in
          subst (λ s. IsMeasured (octet ∷ os) s rest) done.0 here
      | inr long ↦ elim (chosen (octet == 128) _ _ _ long.1) [
        | inl indefinite ↦
            let done = same_answer None size os rest indefinite.1 in
            let here : IsMeasured (octet ∷ os) None rest = ap₂ (λ o r. o ∷ r) (eqb-true _ _ indefinite.0) done.1 in
            subst (λ s. IsMeasured (octet ∷ os) s rest) done.0 here
        | inr definite ↦ elim (chosen (octet == 255) _ _ _ definite.1) [
          | inl unused ↦ cc
          | inr used ↦ long_found octet os size rest (ltb-false _ _ long.0) (eqb-false _ _ definite.0) (eqb-false _ _ used.0) below.0 below.1 (size_found (octet - 128) os size rest used.1)
        ]
      ]
    ]

-- a list that isn't empty has a length above 0
some_length : (ds : List ℕ) → ds ≢ [] → 0 < length ds
some_length [] some = absurd (some refl)
some_length (d ∷ ds) some = omega arith

pub size_again : (ds rest : List ℕ) (n : ℕ) → number_from_digits 256 ds ≡ n → n < 2 ^ 64 → size_at (length ds) (ds ++ rest) ≡ Ok (Some n, rest)
unfolding size_at
size_again ds rest n value small =
    let enough : nat_lt (length (ds ++ rest)) (length ds) ≡ false = le-ltb _ _ (omega (arith, length-append ds rest)) in
    let fits : nat_lt n (2 ^ 64) ≡ true = lt-ltb _ _ small in
    rw (enough, take-append_seam ds rest, value, fits, drop-append_seam ds rest) refl

pub length_again : (front : List ℕ) (n : ℕ) (rest : List ℕ) → n < 2 ^ 64 → SpellsLength front n → length_at (front ++ rest) ≡ Ok (Some n, rest)
unfolding length_at
length_again front n rest small (inl (short, e)) = let low : nat_lt n 128 ≡ true = lt-ltb _ _ short in rw (e, low) refl
length_again front n rest small (inr (ds, are, few, e)) =
    let some : 0 < length ds = some_length ds are.some in
    let long : nat_lt (128 + length ds) 128 ≡ false = le-ltb _ _ (omega arith) in
    let definite : (128 + length ds == 128) ≡ false = ne_eqb _ _ (λ x. omega arith) in
    let used : (128 + length ds == 255) ≡ false = ne_eqb _ _ (λ x. omega arith) in
    let count : 128 + length ds - 128 ≡ length ds = omega arith in
    rw (e, long, definite, used, count) (size_again ds rest n are.value small)

pub indefinite_again : (rest : List ℕ) → length_at (128 ∷ rest) ≡ Ok (None, rest)
unfolding length_at
indefinite_again rest = refl
