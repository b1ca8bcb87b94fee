-- The readers of this crate take what the relations say, and no more.
use Rattle.std.proofs.Common.{◌≡◌, ◌∙◌, refl, sym, ap, subst, ℕ, List, [], ◌∷◌, Some, Ok, inl, inr}
use Rattle.std.specs.Int.Digits.{AllBelowBase}
use Rattle.std.specs.Result.{result_ok}
use Rattle.asn1_core.proofs.Cases.{chosen}
use Rattle.asn1_core.specs.declared.error.Error.{Error}
use Rattle.std.proofs.Common.{Result, Err}
use Rattle.x509_core.specs.asn1_traits.specs.IntegerReading.{is_shortest}
use Rattle.asn1_values.specs.Readers.{unsigned_at}
use Rattle.asn1_values.specs.ReaderLaws.{unsigned_found, unsigned_only}
use Rattle.x509_core.specs.Answers.{plain}
use Rattle.x509_core.specs.Grammar.{One, Holds, Maybe}
use Rattle.x509_core.specs.Leaves.{Leaf, IsOctets}
use Rattle.x509_core.specs.Reading.{next}
use Rattle.x509_core.proofs.Grammars.{IsMeaning, IsReading, next_reading}
use Rattle.x509_core.proofs.LeafLaws.{leaf_meaning, octets_meaning_of, was_some}
use Rattle.x509_names.proofs.LeafLaws.{shortest_is, is_shortest_of}
use Rattle.x509_items.specs.Reading.{maybe_of}
use Rattle.x509_items.proofs.Readings.{held_meaning, maybe_reading}
use Rattle.x509_ext_flags.specs.Extensions.{PolicyConstraintsParts}
use Rattle.x509_ext_flags.specs.Flags.{AreSixteen, AreEight}
use Rattle.x509_ext_flags.specs.Numbers.{IsNumber}
use Rattle.x509_ext_flags.specs.Reading.{flags_in, sixteen_in, one_octet, netscape_in, key_identifier_in, number_in, tagged_number_in, whole, policy_parts_at, policy_constraints_in}
use Rattle.x509_ext_flags.specs.Values.{PolicyConstraints}
use Rattle.x509_ext_flags.proofs.BitLaws.{flags_found, flags_only, one_found, one_only}

-- the first sixteen bits of an element of any tag number
pub sixteen_meaning : (tag : ℕ) → IsMeaning (Leaf tag AreSixteen) (sixteen_in tag)
sixteen_meaning tag = leaf_meaning tag AreSixteen (flags_in 16) (flags_found 16) (flags_only 16)

pub usage_meaning : IsMeaning (Leaf 3 AreSixteen) (sixteen_in 3)
usage_meaning = sixteen_meaning 3

pub netscape_meaning : IsMeaning (Leaf 3 AreEight) netscape_in
netscape_meaning = leaf_meaning 3 AreEight one_octet one_found one_only

pub key_identifier_meaning : IsMeaning IsOctets key_identifier_in
key_identifier_meaning = octets_meaning_of 4

-- ---- numbers

was_ok : {A : Type 0} (r : Result A Error) (x : A) → result_ok r ≡ Some x → r ≡ Ok x
was_ok (Ok y) x given = let same : y ≡ x = cc in ap (λ z. Ok z) same
was_ok (Err e) x given = cc

pub number_found : (c : List ℕ) (n : ℕ) → number_in c ≡ Some n → IsNumber c n
unfolding number_in
number_found c n given =
    elim (chosen (is_shortest c) _ _ _ given) [
      | inl is ↦
          let means = unsigned_found 32 c n (was_ok (unsigned_at 32 c) n is.1) in
          record { shortest = shortest_is c is.0; value = means.0; small = means.1 }
      | inr other ↦ let impossible = other.1 in cc
    ]

pub number_only : (c : List ℕ) (n : ℕ) → IsNumber c n → number_in c ≡ Some n
unfolding number_in
number_only c n is = rw (is_shortest_of c is.shortest, unsigned_only 32 c n is.value is.small) refl

pub number_meaning : (tag : ℕ) → IsMeaning (Leaf tag IsNumber) (tagged_number_in tag)
number_meaning tag = leaf_meaning tag IsNumber (λ c. plain (number_in c)) (λ c n given. number_found c n (was_some (number_in c) n given)) (λ c n is. ap plain (number_only c n is))

-- ---- policy constraints

whole_case : {A : Type 0} (v w : A) (i r : List ℕ) → whole v i ≡ Ok (w, r) → (i ≡ []) × (v ≡ w) × (r ≡ [])
whole_case {A = A} v w [] r given =
    let both : ◌≡◌ {A = A × List ℕ} (v, []) (w, r) = cc in
    (refl, ap (λ (z : A × List ℕ). z.0) both, sym (ap (λ (z : A × List ℕ). z.1) both))
whole_case v w (x ∷ s) r given = cc

explicit_reading : IsReading (Maybe (One (Leaf 0 IsNumber))) (λ i. Ok (maybe_of (next (tagged_number_in 0)) i))
explicit_reading = maybe_reading (One (Leaf 0 IsNumber)) (next (tagged_number_in 0)) (next_reading (Leaf 0 IsNumber) (tagged_number_in 0) (number_meaning 0))

mapping_reading : IsReading (Maybe (One (Leaf 1 IsNumber))) (λ i. Ok (maybe_of (next (tagged_number_in 1)) i))
mapping_reading = maybe_reading (One (Leaf 1 IsNumber)) (next (tagged_number_in 1)) (next_reading (Leaf 1 IsNumber) (tagged_number_in 1) (number_meaning 1))

policy_parts_reading : IsReading PolicyConstraintsParts policy_parts_at
unfolding policy_parts_at
policy_parts_reading = record {
  found = λ i v r below given.
      let first = maybe_of (next (tagged_number_in 0)) i in
      let second = maybe_of (next (tagged_number_in 1)) first.1 in
      let explicit = explicit_reading.found i first.0 first.1 below refl in
      let mapping = mapping_reading.found first.1 second.0 second.1 explicit.1 refl in
      let case = whole_case {A = PolicyConstraints} (record { require_explicit_policy = first.0; inhibit_policy_mapping = second.0 }) v second.1 r given in
      let parts : PolicyConstraintsParts i (record { require_explicit_policy = first.0; inhibit_policy_mapping = second.0 }) second.1 = record { after_explicit = first.1; require_explicit_policy = explicit.0; inhibit_policy_mapping = mapping.0; all_read = case.0 } in
      (subst (λ z. PolicyConstraintsParts i v z) (case.0 ∙ sym case.2) (subst (λ z. PolicyConstraintsParts i z second.1) case.1 parts), subst (AllBelowBase 256) (case.0 ∙ sym case.2) mapping.1);
  only = λ i v r below is.
      let explicit = explicit_reading.only i v.require_explicit_policy is.after_explicit below is.require_explicit_policy in
      let after = (explicit_reading.found i v.require_explicit_policy is.after_explicit below explicit).1 in
      let mapping = mapping_reading.only is.after_explicit v.inhibit_policy_mapping r after is.inhibit_policy_mapping in
      let first : maybe_of (next (tagged_number_in 0)) i ≡ (v.require_explicit_policy, is.after_explicit) = cc in
      let second : maybe_of (next (tagged_number_in 1)) is.after_explicit ≡ (v.inhibit_policy_mapping, r) = cc in
      rw (first, second, is.all_read) refl;
}

pub policy_constraints_meaning : IsMeaning (Holds 16 PolicyConstraintsParts) policy_constraints_in
policy_constraints_meaning = held_meaning 16 PolicyConstraintsParts policy_parts_at policy_parts_reading
