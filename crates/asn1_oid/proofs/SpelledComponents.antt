-- The components that octets spell, both ways.
use Rattle.std.proofs.Common.{◌≡◌, ◌≢◌, ℕ, ◌+◌, ◌-◌, ◌*◌, ◌^◌, ◌<◌, ◌≤◌, true, false, not, ◌&&◌, ◌||◌, List, [], ◌∷◌, length, refl, sym, ap, ap₂, ◌∙◌, append-nil, arith, inl, inr, suc, get_or, take, drop, Fits, w64}
use Rattle.std.proofs.lemmas.List.{take_all}
use Rattle.std.specs.Prelude.{nat_lt, ◌==◌, Option, Some, None, IfSome, IsSomeAnd, MatchOption}
use Rattle.std.proofs.lemmas.Bool.{cases_lt, cases_eq, lt-ltb, le-ltb, ltb-true, lt-leb, le-leb, ne_eqb, eqb-true, and_parts, and_from, not_from_false, or_left, or_right}
use Rattle.std.proofs.lemmas.Bool.Decides.{nat_tests}
use Rattle.std.specs.Int.Digits.{AllBelowBase}
use Rattle.std.specs.List.{list_all}
use Rattle.asn1_oid.specs.Identifier.{content_octets, IsOidContent, AreComponents, subidentifiers_of, CanBeSpelled, Spells}
use Rattle.asn1_oid.specs.Reading.{pushed, is_strict_after, is_small_after, numbers_after, root_of, split_first, components_in, is_readable}
use Rattle.asn1_oid.proofs.WrittenRead.{content_below, numbers_after-content, small-content}
use Rattle.asn1_oid.proofs.ReadWritten.{content-numbers_after, some_content}
use Rattle.asn1_oid.proofs.Steps.{small_fits, small_last, small_above, small_more, no_number}

-- ---- small octets are strict ones

small_begins : (n octet : ℕ) (rest : List ℕ) → is_small_after n (octet ∷ rest) ≡ true → (nat_lt 0 n || not (octet == 128)) ≡ true
small_begins n octet rest small = elim (cases_eq octet 128) [
  | inl e ↦
      let above = small_above n octet rest small (omega arith) in
      or_left (nat_lt 0 n) _ (lt-ltb 0 n (let some : 0 < n = omega arith in some))
  | inr other ↦ or_right (nat_lt 0 n) _ (not_from_false (octet == 128) (ne_eqb octet 128 other))
]

pub small_is_strict : (n : ℕ) (octets : List ℕ) → is_small_after n octets ≡ true → is_strict_after (nat_lt 0 n) octets ≡ true
unfolding is_strict_after is_small_after
small_is_strict n [] small = let none = eqb-true n 0 small in rw (le-ltb 0 n (omega arith)) refl
small_is_strict n (octet ∷ rest) small = and_from (nat_lt 0 n || not (octet == 128)) _ (small_begins n octet rest small) (elim (cases_lt octet 128) [
  | inl low ↦ rw (lt-leb 128 octet low) (small_is_strict 0 rest (small_last n octet rest small low))
  | inr more ↦
      let later = small_is_strict (pushed n octet) rest (small_more n octet rest small more) in
      rw (le-leb 128 octet more) (rw (lt-ltb 0 (pushed n octet) (small_above n octet rest small more)) at later)
])

pub small_numbers : (n : ℕ) (octets : List ℕ) → is_small_after n octets ≡ true → AllBelowBase (2 ^ 64) (numbers_after n octets)
unfolding numbers_after
small_numbers n [] small = tt
small_numbers n (octet ∷ rest) small = elim (cases_lt octet 128) [
  | inl low ↦ rw (lt-ltb octet 128 low) (small_fits n octet rest small, small_numbers 0 rest (small_last n octet rest small low))
  | inr more ↦ rw (le-ltb octet 128 more) (small_numbers (pushed n octet) rest (small_more n octet rest small more))
]

-- ---- the first two components, joined and split

root_of-le : (n : ℕ) → root_of n ≤ 2
root_of-le n = grind (arith, nat_tests)

root_within : (n : ℕ) → 40 * root_of n ≤ n
root_within n = grind (arith, nat_tests)

root_small : (n : ℕ) → root_of n < 2 → n - 40 * root_of n < 40
root_small n = grind (arith, nat_tests)

root_joined : (x y : ℕ) → x ≤ 2 → (x < 2 → y < 40) → root_of (40 * x + y) ≡ x
root_joined x y root under = grind (arith, nat_tests)

pub split_joined : (components : List ℕ) → AreComponents components → split_first (subidentifiers_of components) ≡ components
split_joined (x ∷ y ∷ more) are =
    let root = root_joined x y are.0 are.1 in
    let second : 40 * x + y - 40 * root_of (40 * x + y) ≡ y = omega (arith, root) in
    ap₂ (λ (a b : ℕ). a ∷ b ∷ more) root second
split_joined (x ∷ []) are = absurd are
split_joined [] are = absurd are

joined_split : (n : ℕ) → 40 * root_of n + (n - 40 * root_of n) ≡ n
joined_split n = let within = root_within n in omega arith

split_spells : (ns octets : List ℕ) → ns ≢ [] → AllBelowBase (2 ^ 64) ns → octets ≡ content_octets ns → length (split_first ns) < 2 ^ 64
    → Spells (split_first ns) octets
split_spells [] octets some below spelled counted = absurd (some refl)
split_spells (n ∷ ns) octets some below spelled counted =
    let same = joined_split n in
    record {
      can = record {
        are_components = (root_of-le n, root_small n);
        small = (omega (arith, same, below.0), below.1);
      };
      counted = counted;
      spelled = spelled ∙ ap (λ (k : ℕ). content_octets (k ∷ ns)) (sym same);
    }

-- ---- readable octets and what they spell

all_from_test : (octets : List ℕ) → list_all (λ octet. nat_lt octet 256) octets ≡ true → AllBelowBase 256 octets
all_from_test [] test = tt
all_from_test (octet ∷ rest) test =
    let parts = and_parts (nat_lt octet 256) _ test in
    (ltb-true octet 256 parts.0, all_from_test rest parts.1)

pub all_test : (octets : List ℕ) → AllBelowBase 256 octets → list_all (λ octet. nat_lt octet 256) octets ≡ true
all_test [] below = refl
all_test (octet ∷ rest) below = and_from (nat_lt octet 256) _ (lt-ltb octet 256 below.0) (all_test rest below.1)

pub readable_spells : (octets : List ℕ) → is_readable octets ≡ true → Spells (components_in octets) octets
readable_spells octets readable =
    let bytes = and_parts (list_all (λ octet. nat_lt octet 256) octets) _ readable in
    let below = all_from_test octets bytes.0 in
    let outer = and_parts (nat_lt 0 (length octets) && is_small_after 0 octets) _ bytes.1 in
    let inner = and_parts (nat_lt 0 (length octets)) _ outer.0 in
    let written = content-numbers_after 0 octets below (small_is_strict 0 octets inner.1) in
    let long = ltb-true 0 (length octets) inner.0 in
    split_spells (numbers_after 0 octets) octets
    (λ (none : numbers_after 0 octets ≡ []). let empty = no_number 0 octets inner.1 none in omega (arith, ap length empty.1))
    (small_numbers 0 octets inner.1) (sym written) (ltb-true _ _ outer.1)

pub numbers_of_content : (ns : List ℕ) → numbers_after 0 (content_octets ns) ≡ ns
unfolding numbers_after
numbers_of_content ns = ap (numbers_after 0) (sym (append-nil (content_octets ns))) ∙ numbers_after-content ns [] ∙ append-nil ns

some_octets : (components : List ℕ) → AreComponents components → 0 < length (content_octets (subidentifiers_of components))
some_octets (x ∷ y ∷ more) are = some_content (40 * x + y) more
some_octets (x ∷ []) are = absurd are
some_octets [] are = absurd are

pub spelled_components : (components octets : List ℕ) → Spells components octets → components_in octets ≡ components
spelled_components components octets s =
    ap components_in s.spelled ∙ ap split_first (numbers_of_content (subidentifiers_of components)) ∙ split_joined components s.can.are_components

pub spelled_readable : (components octets : List ℕ) → Spells components octets → is_readable octets ≡ true
spelled_readable components octets s =
    let joined = subidentifiers_of components in
    let long : nat_lt 0 (length octets) ≡ true = rw s.spelled (lt-ltb 0 (length (content_octets joined)) (some_octets components s.can.are_components)) in
    let small : is_small_after 0 octets ≡ true = rw s.spelled (small-content joined s.can.small) in
    let counted : nat_lt (length (components_in octets)) (2 ^ 64) ≡ true = rw (spelled_components components octets s) (lt-ltb (length components) (2 ^ 64) s.counted) in
    and_from _ _ (all_test octets (rw s.spelled (content_below joined))) (and_from _ _ (and_from _ _ long small) counted)

-- ---- the answer of a reader

pub answers_found : (r : Option (List ℕ)) (octets : List ℕ)
    → MatchOption r (is_readable octets ≡ false) (λ left. (is_readable octets ≡ true) × (left ≡ components_in octets))
    → IfSome r (λ left. Spells left octets)
answers_found None octets exact = tt
answers_found (Some left) octets exact = rw exact.1 (readable_spells octets exact.0)

pub answers_only : (r : Option (List ℕ)) (octets components : List ℕ) → Spells components octets
    → MatchOption r (is_readable octets ≡ false) (λ left. (is_readable octets ≡ true) × (left ≡ components_in octets))
    → IsSomeAnd r (λ left. left ≡ components)
answers_only None octets components s exact = let readable = spelled_readable components octets s in let not_readable : is_readable octets ≡ false = exact in cc
answers_only (Some left) octets components s exact = exact.1 ∙ spelled_components components octets s

-- ---- the answer of the writer

all_small : (xs : List ℕ) → ((i : ℕ) → Fits w64 (get_or xs i 0)) → AllBelowBase (2 ^ 64) xs
all_small [] each = tt
all_small (x ∷ xs) each = (omega (arith, each 0), all_small xs (λ i. each (suc i)))

pub joined_can : (xs : List ℕ) → 2 ≤ length xs → ((i : ℕ) → Fits w64 (get_or xs i 0)) → get_or xs 0 0 ≤ 2 → (get_or xs 0 0 < 2 → get_or xs 1 0 < 40)
    → 40 * get_or xs 0 0 + get_or xs 1 0 < 2 ^ 64 → CanBeSpelled xs
joined_can [] two each root under small = absurd (omega arith)
joined_can (x ∷ []) two each root under small = absurd (omega arith)
joined_can (x ∷ y ∷ more) two each root under small =
    record { are_components = (root, under); small = (small, all_small more (λ i. each (suc (suc i)))) }

joined_more : (xs : List ℕ) → 2 ≤ length xs
    → subidentifiers_of xs ≡ (40 * get_or xs 0 0 + get_or xs 1 0) ∷ take (length xs - 2) (drop 2 xs)
joined_more [] two = absurd (omega arith)
joined_more (x ∷ []) two = absurd (omega arith)
joined_more (x ∷ y ∷ more) two = ap (λ (l : List ℕ). (40 * x + y) ∷ l) (sym (take_all (length (x ∷ y ∷ more) - 2) more (omega arith)))

pub joined_spells : (xs octets : List ℕ) → CanBeSpelled xs → 2 ≤ length xs → length xs < 2 ^ 64
    → octets ≡ content_octets ((40 * get_or xs 0 0 + get_or xs 1 0) ∷ take (length xs - 2) (drop 2 xs)) → Spells xs octets
joined_spells xs octets can two counted spelled =
    record { can = can; counted = counted; spelled = spelled ∙ ap content_octets (sym (joined_more xs two)) }

-- ---- laws

pub same_numbers : (first second : List ℕ) → content_octets first ≡ content_octets second → first ≡ second
same_numbers first second same = sym (numbers_of_content first) ∙ ap (numbers_after 0) same ∙ numbers_of_content second

joined_some : (components : List ℕ) → AreComponents components → subidentifiers_of components ≢ []
joined_some (x ∷ y ∷ more) are none = cc
joined_some (x ∷ []) are none = absurd are
joined_some [] are none = absurd are

pub spelled_content : (components octets : List ℕ) → Spells components octets → IsOidContent octets
spelled_content components octets s =
    record { subidentifiers = subidentifiers_of components; some = joined_some components s.can.are_components; spelled = s.spelled }
