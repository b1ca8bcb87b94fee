-- What the reading of identifiers accepts.
use Rattle.std.proofs.Common.{◌≡◌, ◌≢◌, ℕ, ◌+◌, ◌*◌, ◌/◌, ◌%◌, ◌^◌, ◌<◌, ◌≤◌, ◌==◌, nat_lt, Bool, true, false, List, [], ◌∷◌, ◌++◌, Ok, inl, inr, refl, ap, ap₂, ◌∙◌, subst, arith, lt-ltb, le-ltb, ltb-true, ltb-false, eqb-true, eq-eqb, ne_eqb}
use Rattle.std.specs.Int.Digits.{number_from_digits_after, AllBelowBase}
use Rattle.std.proofs.lemmas.Int.Digits.{number_after_ge}
use Rattle.std.proofs.lemmas.Bool.{cases_Bool, eqb-false}
use Rattle.asn1_core.specs.Digits.{continued}
use Rattle.asn1_core.specs.Strict.{lead}
use Rattle.asn1_core.specs.Lenient.{SpellsIdentifier}
use Rattle.asn1_core.specs.Reading.{high_tag_after, tag_at, identity_at}
use Rattle.asn1_core.specs.Views.{Identity}
use Rattle.asn1_core.proofs.Cases.{chosen, same_answer, two_steps}
use Rattle.asn1_core.proofs.Numbers.{continued_more}

-- the octets that a high tag number was read from are digits that make it from n
pub record IsHigh (n : ℕ) (octets : List ℕ) (tag : ℕ) (rest : List ℕ) : Type 0 where
  pub digits : List ℕ
  pub some : digits ≢ []
  pub below : AllBelowBase 128 digits
  pub value : number_from_digits_after 128 n digits ≡ tag
  pub small : tag < 2 ^ 32
  pub whole : octets ≡ continued digits ++ rest

last_octet : (n octet : ℕ) (os : List ℕ) (tag : ℕ) (rest : List ℕ) → n * 128 + octet % 128 < 2 ^ 32 → octet < 128
    → n * 128 + octet % 128 ≡ tag → os ≡ rest → IsHigh n (octet ∷ os) tag rest
last_octet n octet os tag rest small low value after =
    let same : octet % 128 ≡ octet = omega arith in
    record {
      digits = octet ∷ [];
      some = λ e. cc;
      below = (low, tt);
      value = rw (← same) value;
      small = omega arith;
      whole = ap (λ r. octet ∷ r) after;
    }

more_octets : (n octet : ℕ) (os : List ℕ) (tag : ℕ) (rest : List ℕ) → 128 ≤ octet → octet < 256
    → IsHigh (n * 128 + octet % 128) os tag rest → IsHigh n (octet ∷ os) tag rest
more_octets n octet os tag rest high byte found =
    let same : octet ≡ 128 + octet % 128 = omega arith in
    let low : octet % 128 < 128 = omega arith in
    record {
      digits = octet % 128 ∷ found.digits;
      some = λ e. cc;
      below = (low, found.below);
      value = found.value;
      small = found.small;
      whole = rw (continued_more (octet % 128) found.digits found.some) (ap₂ (λ o r. o ∷ r) same found.whole);
    }

pub high_found : (n : ℕ) (octets : List ℕ) (tag : ℕ) (rest : List ℕ) → AllBelowBase 256 octets → high_tag_after n octets ≡ Ok (tag, rest) → IsHigh n octets tag rest
unfolding high_tag_after
high_found n [] tag rest below read = cc
high_found n (octet ∷ os) tag rest below read =
    elim (chosen (nat_lt (n * 128 + octet % 128) (2 ^ 32)) _ _ _ read) [
      | inl fits ↦ elim (chosen (nat_lt octet 128) _ _ _ fits.1) [
        | inl ends ↦
            let done = same_answer (n * 128 + octet % 128) tag os rest ends.1 in
            last_octet n octet os tag rest (ltb-true _ _ fits.0) (ltb-true _ _ ends.0) done.0 done.1
        | inr goes ↦ more_octets n octet os tag rest (ltb-false _ _ goes.0) below.0 (high_found (n * 128 + octet % 128) os tag rest below.1 goes.1)
      ]
      | inr large ↦ cc
    ]

pub high_again : (n : ℕ) (ds rest : List ℕ) → ds ≢ [] → AllBelowBase 128 ds → number_from_digits_after 128 n ds < 2 ^ 32
    → high_tag_after n (continued ds ++ rest) ≡ Ok (number_from_digits_after 128 n ds, rest)
unfolding high_tag_after
high_again n [] rest some below small = absurd (some refl)
high_again n (d ∷ []) rest some below small =
    let low : d % 128 ≡ d = omega (arith, below.0) in
    let fits : nat_lt (n * 128 + d) (2 ^ 32) ≡ true = lt-ltb _ _ small in
    let ends : nat_lt d 128 ≡ true = lt-ltb _ _ below.0 in
    rw (low, fits, ends) refl
high_again n (d ∷ e ∷ ds) rest some below small =
    let low : (128 + d) % 128 ≡ d = omega (arith, below.0) in
    let grows : n * 128 + d < 2 ^ 32 = omega (arith, number_after_ge 128 (n * 128 + d) (e ∷ ds) (omega arith), small) in
    let fits : nat_lt (n * 128 + d) (2 ^ 32) ≡ true = lt-ltb _ _ grows in
    let goes : nat_lt (128 + d) 128 ≡ false = le-ltb _ _ (omega arith) in
    rw (low, fits, goes) (high_again (n * 128 + d) (e ∷ ds) rest (λ x. cc) below.1 small)

-- the first octet is its three parts
pub lead_parts : (octet : ℕ) → octet ≡ lead (octet / 64) (octet / 32 % 2 == 1) (octet % 32)
lead_parts octet = elim (cases_Bool (octet / 32 % 2 == 1)) [
  | inl one ↦ let e = eqb-true (octet / 32 % 2) 1 one in rw one (omega arith)
  | inr two ↦ let e = eqb-false (octet / 32 % 2) 1 two in rw two (omega arith)
]

pub lead_class : (class : ℕ) (constructed : Bool) (low : ℕ) → low < 32 → lead class constructed low / 64 ≡ class
lead_class class true low small = omega arith
lead_class class false low small = omega arith

pub lead_low : (class : ℕ) (constructed : Bool) (low : ℕ) → low < 32 → lead class constructed low % 32 ≡ low
lead_low class true low small = omega arith
lead_low class false low small = omega arith

pub lead_constructed : (class : ℕ) (constructed : Bool) (low : ℕ) → low < 32 → (lead class constructed low / 32 % 2 == 1) ≡ constructed
lead_constructed class true low small = eq-eqb _ _ (omega arith)
lead_constructed class false low small = ne_eqb _ _ (λ e. omega arith)

-- an identifier at the front, with what it says
pub record IsIdentified (octets : List ℕ) (id : Identity) (rest : List ℕ) : Type 0 where
  pub front : List ℕ
  pub class : id.class < 4
  pub tag : id.tag < 2 ^ 32
  pub spells : SpellsIdentifier front id.class id.constructed id.tag
  pub whole : octets ≡ front ++ rest

record IsTagged (octet : ℕ) (os : List ℕ) (tag : ℕ) (rest : List ℕ) : Type 0 where
  pub front : List ℕ
  pub small : tag < 2 ^ 32
  pub spells : SpellsIdentifier (octet ∷ front) (octet / 64) (octet / 32 % 2 == 1) tag
  pub whole : os ≡ front ++ rest

tag_found : (octet : ℕ) (os : List ℕ) (tag : ℕ) (rest : List ℕ) → AllBelowBase 256 os → tag_at (octet % 32) os ≡ Ok (tag, rest) → IsTagged octet os tag rest
tag_found octet os tag rest below read =
    elim (chosen (nat_lt (octet % 32) 31) _ _ _ read) [
      | inl low ↦
          let done = same_answer (octet % 32) tag os rest low.1 in
          let small = ltb-true _ _ low.0 in
          record {
            front = [];
            small = omega arith;
            spells = inl (omega arith, rw (← done.0) (ap (λ o. o ∷ []) (lead_parts octet)));
            whole = done.1;
          }
      | inr high ↦
          let found = high_found 0 os tag rest below high.1 in
          let last = ltb-false _ _ high.0 in
          let full : octet % 32 ≡ 31 = omega arith in
          let first : octet ≡ lead (octet / 64) (octet / 32 % 2 == 1) 31 = lead_parts octet ∙ ap (λ low. lead (octet / 64) (octet / 32 % 2 == 1) low) full in
          record {
            front = continued found.digits;
            small = found.small;
            spells = inr (found.digits, record { some = found.some; below = found.below; value = found.value }, ap (λ o. o ∷ continued found.digits) first);
            whole = found.whole;
          }
    ]

pub identity_found : (octets : List ℕ) (id : Identity) (rest : List ℕ) → AllBelowBase 256 octets → identity_at octets ≡ Ok (id, rest) → IsIdentified octets id rest
unfolding identity_at
identity_found [] id rest below read = cc
identity_found (octet ∷ os) id rest below read =
    let steps = two_steps (tag_at (octet % 32) os) _ _ read in
    let found = tag_found octet os steps.0.0 steps.0.1 below.1 steps.1 in
    let said : Identity = record { class = octet / 64; constructed = octet / 32 % 2 == 1; tag = steps.0.0 } in
    let done = same_answer said id steps.0.1 rest steps.2 in
    let class : octet / 64 < 4 = omega (arith, below.0) in
    let here : IsIdentified (octet ∷ os) said steps.0.1 = record {
      front = octet ∷ found.front;
      class = class;
      tag = found.small;
      spells = found.spells;
      whole = ap (λ r. octet ∷ r) found.whole;
    } in
    subst (λ r. IsIdentified (octet ∷ os) id r) done.1 (subst (λ i. IsIdentified (octet ∷ os) i steps.0.1) done.0 here)

pub identity_again : (front : List ℕ) (class : ℕ) (constructed : Bool) (tag : ℕ) (rest : List ℕ) → tag < 2 ^ 32 → SpellsIdentifier front class constructed tag
    → identity_at (front ++ rest) ≡ Ok (record { class = class; constructed = constructed; tag = tag }, rest)
unfolding identity_at
identity_again front class constructed tag rest small (inl (low, e)) =
    let first = lead_low class constructed tag (omega arith) in
    let short : nat_lt tag 31 ≡ true = lt-ltb _ _ low in
    rw (e, first, short, lead_class class constructed tag (omega arith), lead_constructed class constructed tag (omega arith)) refl
identity_again front class constructed tag rest small (inr (ds, are, e)) =
    let first = lead_low class constructed 31 (omega arith) in
    let high = high_again 0 ds rest are.some are.below (rw are.value small) in
    rw (e, first, high, are.value, lead_class class constructed 31 (omega arith), lead_constructed class constructed 31 (omega arith)) refl
