-- Octets in ascending order.
use Rattle.std.proofs.Common.{◌≡◌, refl, ℕ, ◌^◌, ◌<◌, ◌≤◌, Bool, length, arith}
use Rattle.std.specs.Int.Digits.{digits_of}
use Rattle.std.proofs.lemmas.Int.Digits.{length-digits_of-le}
use Rattle.asn1_core.specs.Strict.{strict_header}
use Rattle.asn1_core.specs.Views.{class_number, head_of, class_of, constructed_of, tag_of, length_of}
use Rattle.asn1_core.specs.declared.class.Class.{Class}
use Rattle.asn1_core.specs.declared.tag.Tag.{Tag}
use Rattle.asn1_core.specs.declared.header.Header.{Header}
use Rattle.asn1_core.specs.declared.length.Length.TheVariants.{Definite}

-- a length of 128 bits has at most 16 digits
pub length_digits : (n : ℕ) → n < 2 ^ 128 → length (digits_of 256 n) ≤ 16
length_digits n small = length-digits_of-le 256 16 n (omega arith) (omega arith)

-- a header by its parts
pub header_of_parts : (h : Header) (k : Class) (b : Bool) (t : Tag) (n : ℕ) → class_of h ≡ k → constructed_of h ≡ b → tag_of h ≡ t → length_of h ≡ Definite n
    → strict_header (head_of h) ≡ strict_header (record { class = class_number k; constructed = b; tag = t.0; size = n })
header_of_parts h k b t n p q r s = rw (p, q, r, s) refl
