-- Unsigned integers as octets in base 256, the highest first.
use Rattle.std.proofs.Common.{◌≡◌, ◌∙◌, sym, ap, ℕ, true, List}
use Rattle.std.specs.Prelude.{nat_eq}
use Rattle.std.specs.Ordering.{on}
use Rattle.std.specs.Hash as fed
use Rattle.std.specs.Int.Digits.{number_from_digits, digits_of}
use Rattle.std.proofs.lemmas.Bool.{eqb-true}
use Rattle.asn1_unsigned.specs.declared.unsigned.UnsignedBytes.{UnsignedBytes}

-- the octets that are held
abbrev pub octets_of : UnsignedBytes → List ℕ
octets_of v = v.octets.now

-- the number that they make
abbrev pub number_of : UnsignedBytes → ℕ
number_of v = number_from_digits 256 v.octets.now

pub same_octets : (v w : UnsignedBytes) → number_of v ≡ number_of w → octets_of v ≡ octets_of w
same_octets v w e = sym v.shortest ∙ ap (digits_of 256) e ∙ w.shortest

pub same_hash : (v w : UnsignedBytes) → on number_of nat_eq v w ≡ true → fed.slice fed.u8 (octets_of v) ≡ fed.slice fed.u8 (octets_of w)
same_hash v w e = ap (fed.slice fed.u8) (same_octets v w (eqb-true (number_of v) (number_of w) e))
