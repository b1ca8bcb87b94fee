-- Writing gives back what was read, if the octets are strict.
use Rattle.std.proofs.Common.{◌≡◌, ◌≢◌, ℕ, zero, suc, ◌+◌, ◌*◌, ◌%◌, ◌<◌, ◌≤◌, Bool, true, false, not, ◌||◌, List, [], ◌∷◌, ◌++◌, length, get_or, refl, sym, ap, ap₂, ◌∙◌, append_assoc, arith, inl, inr, Fits, w8, length-append}
use Rattle.std.proofs.lemmas.List.{nil_from_length}
use Rattle.std.specs.Prelude.{nat_lt, nat_le, ◌==◌}
use Rattle.std.proofs.lemmas.Bool.{cases_eq, cases_lt, cond-true, cond-false, lt-ltb, le-ltb, ltb-true, le-leb, lt-leb, eqb-false, and_parts, and_from, not-true, or_cases}
use Rattle.std.specs.Int.Digits.{digits_of, AllBelowBase}
use Rattle.asn1_oid.specs.Identifier.{subidentifier_octets, content_octets, IsOidContent}
use Rattle.asn1_oid.specs.Reading.{pushed, is_strict_after, is_strict, numbers_after}
use Rattle.asn1_oid.specs.Spelling.{high}
use Rattle.asn1_oid.proofs.Subidentifiers.{high-push, digits_of-push, subidentifier_octets-push}
use Rattle.asn1_oid.proofs.WrittenRead.{strict-content, some_octet}

-- what a slice of octets is known to hold
pub all_octets : (octets : List ℕ) → ((i : ℕ) → Fits w8 (get_or octets i 0)) → AllBelowBase 256 octets
all_octets [] each = tt
all_octets (x ∷ xs) each = (omega (arith, each 0), all_octets xs (λ i. each (suc i)))

-- another octet of a strict subidentifier leaves a number above 0
inside_more : (n octet : ℕ) → 128 ≤ octet → octet < 256 → (nat_lt 0 n || not (octet == 128)) ≡ true → 0 < pushed n octet
inside_more n octet more small begun = elim (or_cases (nat_lt 0 n) (not (octet == 128)) begun) [
  | inl inside ↦ let some = ltb-true 0 n inside in omega arith
  | inr other ↦ let apart : octet ≡ 128 → ⊥ = eqb-false octet 128 (not-true (octet == 128) other) in omega arith
]

-- the number so far goes before what is read on from it
pub content-numbers_after : (n : ℕ) (octets : List ℕ) → AllBelowBase 256 octets → is_strict_after (nat_lt 0 n) octets ≡ true
    → content_octets (numbers_after n octets) ≡ high (digits_of 128 n) ++ octets
unfolding numbers_after is_strict_after
content-numbers_after zero [] below strict = refl
content-numbers_after (suc n) [] below strict = let inside = lt-ltb 0 (suc n) (omega arith) in let outside = not-true (nat_lt 0 (suc n)) strict in cc
content-numbers_after n (octet ∷ rest) below strict =
    let parts = and_parts (nat_lt 0 n || not (octet == 128)) (is_strict_after (nat_le 128 octet) rest) strict in
    elim (cases_lt octet 128) [
      | inl low ↦
          let same : octet % 128 ≡ octet = omega arith in
          let later = content-numbers_after 0 rest below.1 (sym (ap (λ (b : Bool). is_strict_after b rest) (lt-leb 128 octet low)) ∙ parts.1) in
          ap content_octets (cond-true (nat_lt octet 128) _ _ (lt-ltb octet 128 low))
          ∙ ap (λ (k : ℕ). subidentifier_octets (n * 128 + k) ++ content_octets (numbers_after 0 rest)) same
          ∙ ap₂ (λ (a b : List ℕ). a ++ b) (subidentifier_octets-push n octet low) later
          ∙ append_assoc (high (digits_of 128 n)) (octet ∷ []) rest
      | inr more ↦
          let digit = octet % 128 in
          let same : 128 + digit ≡ octet = omega arith in
          let inside : 0 < pushed n octet = inside_more n octet more below.0 parts.0 in
          let strict_on = ap (λ (b : Bool). is_strict_after b rest) (lt-ltb 0 (pushed n octet) inside ∙ sym (le-leb 128 octet more)) ∙ parts.1 in
          ap content_octets (cond-false (nat_lt octet 128) _ _ (le-ltb octet 128 more))
          ∙ content-numbers_after (pushed n octet) rest below.1 strict_on
          ∙ ap (λ (l : List ℕ). high l ++ rest) (digits_of-push n digit (omega arith) inside)
          ∙ ap (λ (l : List ℕ). l ++ rest) (high-push (digits_of 128 n) digit)
          ∙ append_assoc (high (digits_of 128 n)) ((128 + digit) ∷ []) rest
          ∙ ap (λ (k : ℕ). high (digits_of 128 n) ++ k ∷ rest) same
    ]

pub some_content : (n : ℕ) (ns : List ℕ) → 0 < length (content_octets (n ∷ ns))
some_content n ns = elim (cases_eq (length (subidentifier_octets n)) 0) [
  | inl none ↦ absurd (some_octet n (nil_from_length (subidentifier_octets n) none))
  | inr some ↦ omega (arith, length-append (subidentifier_octets n) (content_octets ns))
]

subidentifiers_strict : (octets ns : List ℕ) → ns ≢ [] → octets ≡ content_octets ns → is_strict octets ≡ true
subidentifiers_strict octets [] some spelled = absurd (some refl)
subidentifiers_strict octets (n ∷ ns) some spelled =
    let long = some_content n ns in
    rw spelled (and_from _ _ (lt-ltb 0 (length (content_octets (n ∷ ns))) long) (strict-content (n ∷ ns)))

pub strict_is_content : (octets : List ℕ) → AllBelowBase 256 octets → is_strict octets ≡ true → IsOidContent octets
strict_is_content octets below strict =
    let parts = and_parts (nat_lt 0 (length octets)) (is_strict_after false octets) strict in
    let written = content-numbers_after 0 octets below parts.1 in
    record {
      subidentifiers = numbers_after 0 octets;
      some = λ (none : numbers_after 0 octets ≡ []). let no_octet : [] ≡ octets = ap content_octets (sym none) ∙ written in let some = ltb-true 0 (length octets) parts.0 in omega (arith, ap length no_octet);
      spelled = sym written;
    }

pub content_is_strict : (octets : List ℕ) → IsOidContent octets → is_strict octets ≡ true
content_is_strict octets is = subidentifiers_strict octets is.subidentifiers is.some is.spelled
