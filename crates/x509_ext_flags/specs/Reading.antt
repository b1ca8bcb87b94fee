-- The readers of this crate as functions on octets, with the refusals that are promised, in their
-- order. What they read is defined in `Extensions`; laws tie each function to it.
use Rattle.std.specs.Prelude.{ℕ, zero, suc, ◌+◌, ◌*◌, ◌==◌, Bool, if◌then◌else◌, List, [], ◌∷◌, length, Option, None, Ok, Err}
use Rattle.std.specs.Result.{result_ok}
use Rattle.asn1_core.specs.Elements.{Element}
use Rattle.asn1_any.specs.Cutting.{Piece}
use Rattle.x509_core.specs.asn1_traits.specs.IntegerReading.{is_shortest}
use Rattle.asn1_values.specs.Bits.{bit_at}
use Rattle.asn1_values.specs.Readers.{check_bits, unsigned_at}
use Rattle.x509_core.specs.Answers.{Answer, unnamed, plain, ◌>>=◌}
use Rattle.x509_core.specs.Reading.{Reader, leaf_in, next}
use Rattle.x509_items.specs.Reading.{held, maybe_of}
use Rattle.x509_ext_flags.specs.Values.{PolicyConstraints}

-- a bit as a number
abbrev pub digit : Bool → ℕ
digit b = if b then 1 else 0

-- so many bits from this one on, the first being the lowest of the number
unfoldable pub weight : ℕ → ℕ → List ℕ → ℕ
weight zero at octets = 0
weight (suc n) at octets = digit (bit_at octets at) + 2 * weight n (suc at) octets

abbrev pub behind_first : List ℕ → List ℕ
behind_first [] = []
behind_first (x ∷ s) = s

-- the first bits of a content, as DER has them
abbrev pub flags_in : ℕ → List ℕ → Answer ℕ
flags_in width content = do
  allowed ← plain (result_ok (check_bits content))
  Ok (weight width 0 (behind_first content))

-- of a primitive element of this tag number
abbrev pub element_flags : ℕ → Element → Answer ℕ
element_flags tag e = leaf_in tag e >>= flags_in 16

abbrev pub sixteen_in : ℕ → Piece → Answer ℕ
sixteen_in tag p = element_flags tag p.element

abbrev pub usage_at : Reader ℕ
usage_at = next (sixteen_in 3)

-- bits of one octet
abbrev pub one_octet : List ℕ → Answer ℕ
one_octet content = if length content == 2 then flags_in 8 content else Err unnamed

abbrev pub netscape_flags : Element → Answer ℕ
netscape_flags e = leaf_in 3 e >>= one_octet

abbrev pub netscape_in : Piece → Answer ℕ
netscape_in p = netscape_flags p.element

abbrev pub netscape_at : Reader ℕ
netscape_at = next netscape_in

abbrev pub key_identifier_in : Piece → Answer (List ℕ)
key_identifier_in p = leaf_in 4 p.element

abbrev pub key_identifier_at : Reader (List ℕ)
key_identifier_at = next key_identifier_in

-- an INTEGER of 32 bits without a sign, in the fewest octets
unfoldable pub number_in : List ℕ → Option ℕ
number_in content = if is_shortest content then result_ok (unsigned_at 32 content) else None

-- an INTEGER of 32 bits without a sign under this tag number
abbrev pub element_number : ℕ → Element → Answer ℕ
element_number tag e = leaf_in tag e >>= λ content. plain (number_in content)

abbrev pub tagged_number_in : ℕ → Piece → Answer ℕ
tagged_number_in tag p = element_number tag p.element

abbrev pub inhibit_at : Reader ℕ
inhibit_at = next (tagged_number_in 2)

-- nothing is left
abbrev pub whole : {A : Type 0} → A → List ℕ → Answer (A × List ℕ)
whole v [] = Ok (v, [])
whole v (x ∷ s) = Err unnamed

unfoldable pub policy_parts_at : Reader PolicyConstraints
policy_parts_at i = do
  let explicit = maybe_of (next (tagged_number_in 0)) i
  let mapping = maybe_of (next (tagged_number_in 1)) explicit.1
  whole (record { require_explicit_policy = explicit.0; inhibit_policy_mapping = mapping.0 }) mapping.1

abbrev pub policy_constraints_in : Piece → Answer PolicyConstraints
policy_constraints_in = held 16 policy_parts_at

abbrev pub policy_constraints_at : Reader PolicyConstraints
policy_constraints_at = next policy_constraints_in
