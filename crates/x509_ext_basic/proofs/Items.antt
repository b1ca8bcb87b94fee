-- Octets written out by hand are what the relations say.
use Rattle.std.proofs.Common.{◌≡◌, refl, ℕ, pos, List, [], ◌∷◌, ◌++◌, true, false, inl, lit<, lit≤}
use Rattle.asn1_traits.specs.Integers.{twos_complement, SpellsInteger}
use Rattle.x509_core.specs.Leaves.{Leaf}
use Rattle.x509_core.proofs.Items.{one}
use Rattle.x509_ext_flags.specs.Numbers.{IsNumber}
use Rattle.x509_ext_basic.specs.Examples.{constraints_octets, constraints, none_octets, none, number_octets, reason_octets}
use Rattle.x509_ext_basic.specs.Leaves.{IsNatural, IsReason, CRLNumber, CRLReason, IsBasicConstraints, BasicConstraints, neither, both}

zero_spelled : SpellsInteger (0 ∷ []) (pos 0)
unfolding twos_complement
zero_spelled = record { some = λ empty. cc; value = refl }

three_spelled : SpellsInteger (3 ∷ []) (pos 3)
unfolding twos_complement
three_spelled = record { some = λ empty. cc; value = refl }

zero_number : IsNumber (0 ∷ []) 0
zero_number = record { shortest = tt; value = zero_spelled; small = lit< tt }

three_number : IsNumber (3 ∷ []) 3
three_number = record { shortest = tt; value = three_spelled; small = lit< tt }

pub constraints_are : (rest : List ℕ) → BasicConstraints (constraints_octets ++ rest) constraints rest
constraints_are rest = one IsBasicConstraints 0 true 16 (0x01 ∷ 0x01 ∷ 0xff ∷ 0x02 ∷ 0x01 ∷ 0x00 ∷ []) constraints rest (lit< tt) (lit< tt) (lit< tt) (record {
  content = 0x01 ∷ 0x01 ∷ 0xff ∷ 0x02 ∷ 0x01 ∷ 0x00 ∷ [];
  sequence = record { tag = refl; constructed = refl; same = refl };
  parts = both true (0x02 ∷ 0x01 ∷ 0x00 ∷ []) 0 refl (record { tag = 2; content = 0 ∷ []; is_tag = inl refl; whole = refl; number = zero_number }) refl;
})

pub none_are : (rest : List ℕ) → BasicConstraints (none_octets ++ rest) none rest
none_are rest = one IsBasicConstraints 0 true 16 [] none rest (lit< tt) (lit< tt) (lit< tt) (record {
  content = [];
  sequence = record { tag = refl; constructed = refl; same = refl };
  parts = neither refl refl;
})

pub number_is : (rest : List ℕ) → CRLNumber (number_octets ++ rest) 3 rest
number_is rest = one (Leaf 2 IsNatural) 0 false 2 (0x03 ∷ []) 3 rest (lit< tt) (lit< tt) (lit< tt) (record {
  leaf = record { tag_is = refl; primitive = refl };
  meant = record { shortest = tt; value = three_spelled };
})

pub reason_is : (rest : List ℕ) → CRLReason (reason_octets ++ rest) 3 rest
reason_is rest = one (Leaf 10 IsReason) 0 false 10 (0x03 ∷ []) 3 rest (lit< tt) (lit< tt) (lit< tt) (record {
  leaf = record { tag_is = refl; primitive = refl };
  meant = record { number = three_number; known = lit≤ tt };
})
