-- Fronts of octets, of subidentifiers and of components.
use Rattle.std.proofs.Common.{◌≡◌, ℕ, true, List, [], ◌∷◌, ◌++◌, length, take, drop, refl, sym, ap, ◌∙◌}
use Rattle.std.specs.Prelude.{nat_eq}
use Rattle.std.specs.List.{starts_with}
use Rattle.std.specs.Cmp.Lexicographic.{bytes_decides}
use Rattle.std.proofs.lemmas.List.{take-append-drop}
use Rattle.std.proofs.Math.Seq.{take-append_seam}
use Rattle.asn1_oid.specs.Identifier.{content_octets, AreComponents, subidentifiers_of, Spells, IsFront}
use Rattle.asn1_oid.specs.Reading.{numbers_after, split_first}
use Rattle.asn1_oid.proofs.WrittenRead.{numbers_after-content}
use Rattle.asn1_oid.proofs.Subidentifiers.{content_octets-append}
use Rattle.asn1_oid.proofs.SpelledComponents.{numbers_of_content, split_joined}

-- the test of a front
pub front_from_test : (front whole : List ℕ) → starts_with nat_eq whole front ≡ true → IsFront front whole
front_from_test front whole test =
    let same = (bytes_decides front (take (length front) whole)).0 test in
    record {
      rest = drop (length front) whole;
      whole_is = sym (take-append-drop (length front) whole) ∙ ap (λ (l : List ℕ). l ++ drop (length front) whole) (sym same);
    }

pub test_from_front : (front whole : List ℕ) → IsFront front whole → starts_with nat_eq whole front ≡ true
test_from_front front whole is =
    (bytes_decides front (take (length front) whole)).1
    (sym (ap (take (length front)) is.whole_is ∙ take-append_seam front is.rest))

-- octets that begin with those of subidentifiers begin with these
split_first-append : (x : ℕ) (xs ys : List ℕ) → split_first (x ∷ (xs ++ ys)) ≡ split_first (x ∷ xs) ++ ys
split_first-append x xs ys = refl

subidentifiers_of-append : (front rest : List ℕ) → AreComponents front → subidentifiers_of (front ++ rest) ≡ subidentifiers_of front ++ rest
subidentifiers_of-append (x ∷ y ∷ more) rest are = refl
subidentifiers_of-append (x ∷ []) rest are = absurd are
subidentifiers_of-append [] rest are = absurd are

split_front : (whole front rest : List ℕ) → AreComponents front → AreComponents whole
    → subidentifiers_of whole ≡ subidentifiers_of front ++ rest → whole ≡ front ++ rest
split_front whole (x ∷ y ∷ more) rest front_are whole_are same =
    sym (split_joined whole whole_are) ∙ ap split_first same ∙ ap (λ (l : List ℕ). l ++ rest) (split_joined (x ∷ y ∷ more) front_are)
split_front whole (x ∷ []) rest front_are whole_are same = absurd front_are
split_front whole [] rest front_are whole_are same = absurd front_are

pub components_from_octets : (whole front a b : List ℕ) → Spells whole a → Spells front b → IsFront b a → IsFront front whole
components_from_octets whole front a b w f is =
    let octets : content_octets (subidentifiers_of whole) ≡ content_octets (subidentifiers_of front) ++ is.rest =
    sym w.spelled ∙ is.whole_is ∙ ap (λ (l : List ℕ). l ++ is.rest) f.spelled in
    let numbers = sym (numbers_of_content (subidentifiers_of whole)) ∙ ap (numbers_after 0) octets ∙ numbers_after-content (subidentifiers_of front) is.rest in
    record {
      rest = numbers_after 0 is.rest;
      whole_is = split_front whole front (numbers_after 0 is.rest) f.can.are_components w.can.are_components numbers;
    }

pub octets_from_components : (whole front a b : List ℕ) → Spells whole a → Spells front b → IsFront front whole → IsFront b a
octets_from_components whole front a b w f is =
    let joined = subidentifiers_of front in
    record {
      rest = content_octets is.rest;
      whole_is = w.spelled ∙ ap (λ (l : List ℕ). content_octets (subidentifiers_of l)) is.whole_is
          ∙ ap content_octets (subidentifiers_of-append front is.rest f.can.are_components)
          ∙ content_octets-append joined is.rest ∙ ap (λ (l : List ℕ). l ++ content_octets is.rest) (sym f.spelled);
    }

pub numbers_from_octets : (whole front : List ℕ) → IsFront (content_octets front) (content_octets whole) → IsFront front whole
numbers_from_octets whole front is = record {
  rest = numbers_after 0 is.rest;
  whole_is = sym (numbers_of_content whole) ∙ ap (numbers_after 0) is.whole_is ∙ numbers_after-content front is.rest;
}

pub octets_from_numbers : (whole front : List ℕ) → IsFront front whole → IsFront (content_octets front) (content_octets whole)
octets_from_numbers whole front is = record {
  rest = content_octets is.rest;
  whole_is = ap content_octets is.whole_is ∙ content_octets-append front is.rest;
}
