-- What the content of a BER element may be: what DER's table allows, and wider forms of some types
-- (X.690, 8).
use Rattle.std.specs.Prelude.{◌≡◌, ◌≢◌, ◌⊎◌, ℕ, ◌^◌, ◌<◌, ◌==◌, nat_lt, not, Bool, false, IsTrue, List, [], ◌∷◌}
use Rattle.std.specs.Int.Digits.{number_from_digits}
use Rattle.asn1_core.specs.Elements.{Element}
use Rattle.der_tree.specs.Table.{Kind, tag_of, integer, utc_time, generalized_time, IsPrimitive, is_negative}
use Rattle.der_tree.specs.Tree.{Leaf, end_of_content, boolean, bit_string, null, oid, enumerated, plain, raw, Content, leaf, sequence, set}
use Rattle.der_tree.specs.Shape.{Holds}
use Rattle.ber_tree.specs.Time.{IsBerUtcTime, IsBerGeneralizedTime}

-- at least one octet, the number not negative and below 2^64, in any number of octets (X.690, 8.3
-- and 8.4)
pub record IsWideEnumerated (s : List ℕ) : Type 0 where
  pub octet : s ≢ []
  pub sign : is_negative s ≡ false
  pub size : number_from_digits 256 s < 2 ^ 64

-- how many bits are unused, 0 to 7, and 0 if no octet follows; then bits of any value
-- (X.690, 8.6.2)
abbrev pub is_wide_bit_string : List ℕ → Bool
is_wide_bit_string [] = false
is_wide_bit_string (unused ∷ []) = unused == 0
is_wide_bit_string (unused ∷ b ∷ s) = nat_lt unused 8

-- octets that are kept as they are: integers of one octet at least (X.690, 8.3.1), and times
abbrev pub AllowsWider : Kind → List ℕ → Type 0
AllowsWider integer s = s ≢ []
AllowsWider utc_time s = IsBerUtcTime s
AllowsWider generalized_time s = IsBerGeneralizedTime s
AllowsWider _ s = ⊥

-- the wider forms, with the value that the content holds; a boolean is false if its one octet is
-- 0 (X.690, 8.2)
abbrev pub HoldsWider : Element → Leaf → Type 0
HoldsWider e (boolean b) = IsPrimitive e 1 × ((a : ℕ) × (e.content ≡ a ∷ []) × (b ≡ not (a == 0)))
HoldsWider e (bit_string unused s) = IsPrimitive e 3 × (e.content ≡ unused ∷ s) × IsTrue (is_wide_bit_string e.content)
HoldsWider e (enumerated n) = IsPrimitive e 10 × (n ≡ number_from_digits 256 e.content) × IsWideEnumerated e.content
HoldsWider e (plain k s) = IsPrimitive e (tag_of k) × (s ≡ e.content) × AllowsWider k e.content
HoldsWider e end_of_content = ⊥
HoldsWider e null = ⊥
HoldsWider e (oid s) = ⊥
HoldsWider e (raw f) = ⊥

-- a line of the table
abbrev pub HoldsBer : Element → Leaf → Type 0
HoldsBer e v = Holds e v ⊎ HoldsWider e v

abbrev pub HoldsBerLeaf : Element → Content → Type 0
HoldsBerLeaf e (leaf v) = HoldsBer e v
HoldsBerLeaf e (sequence ts) = ⊥
HoldsBerLeaf e (set ts) = ⊥

abbrev pub HoldsWiderLeaf : Element → Content → Type 0
HoldsWiderLeaf e (leaf v) = HoldsWider e v
HoldsWiderLeaf e (sequence ts) = ⊥
HoldsWiderLeaf e (set ts) = ⊥
