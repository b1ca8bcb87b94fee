-- The header readers as functions on lists of octets, octet by octet, with their errors in the
-- order in which they come. The meaning isn't here: `proofs/` shows what they accept, in the words
-- of `Strict` and `Lenient`.
use Rattle.std.specs.Prelude.{ℕ, ◌+◌, ◌-◌, ◌*◌, ◌/◌, ◌%◌, ◌^◌, ◌==◌, ◌&&◌, ◌||◌, nat_lt, not, Bool, true, if◌then◌else◌, Option, Some, None, List, [], ◌∷◌, length, take, drop, Ok}
use Rattle.std.specs.Int.Digits.{number_from_digits}
use Rattle.asn1_core.specs.Strict.{Head}
use Rattle.asn1_core.specs.Lenient.{BerHead}
use Rattle.asn1_core.specs.Views.{Identity}
use Rattle.asn1_core.specs.Answers.{Answer, refuse, lack, then_read}
use Rattle.asn1_core.specs.declared.error.Error.TheVariants as errors
use Rattle.asn1_core.specs.declared.error.DerConstraint.TheVariants as constraints

-- the digits of a high tag number, to the first octet below 128; n is the number so far
unfoldable pub high_tag_after : ℕ → List ℕ → Answer ℕ
high_tag_after n [] = refuse errors.InvalidTag
high_tag_after n (octet ∷ rest) =
    if nat_lt (n * 128 + octet % 128) (2 ^ 32)
    then if nat_lt octet 128 then Ok (n * 128 + octet % 128, rest) else high_tag_after (n * 128 + octet % 128) rest
    else refuse errors.InvalidTag

-- the number in the first octet, or the high form
abbrev pub tag_at : ℕ → List ℕ → Answer ℕ
tag_at low rest = if nat_lt low 31 then Ok (low, rest) else high_tag_after 0 rest

unfoldable pub identity_at : List ℕ → Answer Identity
identity_at [] = lack 1
identity_at (octet ∷ rest) = then_read (tag_at (octet % 32) rest)
    (λ tag after. Ok (record { class = octet / 64; constructed = octet / 32 % 2 == 1; tag = tag }, after))

-- a number of so many octets at the front
unfoldable pub size_at : ℕ → List ℕ → Answer (Option ℕ)
size_at count octets =
    if nat_lt (length octets) count then lack (count - length octets)
    else if nat_lt (number_from_digits 256 (take count octets)) (2 ^ 64)
    then Ok (Some (number_from_digits 256 (take count octets)), drop count octets)
    else refuse errors.InvalidLength

-- a length; none is the indefinite form
unfoldable pub length_at : List ℕ → Answer (Option ℕ)
length_at [] = lack 1
length_at (octet ∷ rest) =
    if nat_lt octet 128 then Ok (Some octet, rest)
    else if octet == 128 then Ok (None, rest)
    else if octet == 255 then refuse errors.InvalidLength
    else size_at (octet - 128) rest

-- the two parts as a BER header: the indefinite form is for constructed elements
abbrev pub ber_head : Identity → Option ℕ → List ℕ → Answer BerHead
ber_head id (Some n) rest = Ok (record { class = id.class; constructed = id.constructed; tag = id.tag; size = Some n }, rest)
ber_head id None rest =
    if id.constructed then Ok (record { class = id.class; constructed = id.constructed; tag = id.tag; size = None }, rest)
    else refuse errors.ConstructExpected

-- the two parts as a header of definite length
abbrev pub definite_head : Identity → Option ℕ → List ℕ → Answer Head
definite_head id (Some n) rest = Ok (record { class = id.class; constructed = id.constructed; tag = id.tag; size = n }, rest)
definite_head id None rest = refuse (errors.DerConstraintFailed constraints.IndefiniteLength)

unfoldable pub ber_header_at : List ℕ → Answer BerHead
ber_header_at octets = then_read (identity_at octets) (λ id after. then_read (length_at after) (λ size rest. ber_head id size rest))

unfoldable pub header_at : List ℕ → Answer Head
header_at octets = then_read (identity_at octets) (λ id after. then_read (length_at after) (λ size rest. definite_head id size rest))

-- whether the identifier that begins the octets, for this tag number, is the shortest
abbrev pub is_short_identifier : List ℕ → ℕ → Bool
is_short_identifier [] tag = true
is_short_identifier (octet ∷ []) tag = true
is_short_identifier (octet ∷ next ∷ rest) tag = nat_lt (octet % 32) 31 || (nat_lt 30 tag && not (next == 128))

-- whether the length that begins the octets, for this number, is the shortest
abbrev pub is_short_length : List ℕ → ℕ → Bool
is_short_length [] n = true
is_short_length (octet ∷ []) n = true
is_short_length (octet ∷ next ∷ rest) n = nat_lt octet 128 || (nat_lt 127 n && not (next == 0))

-- a definite length of shortest form, which closes the header
abbrev pub strict_head : Identity → List ℕ → Option ℕ → List ℕ → Answer Head
strict_head id after None rest = refuse (errors.DerConstraintFailed constraints.IndefiniteLength)
strict_head id after (Some n) rest =
    if is_short_length after n
    then Ok (record { class = id.class; constructed = id.constructed; tag = id.tag; size = n }, rest)
    else refuse errors.InvalidLength

unfoldable pub strict_at : List ℕ → Answer Head
strict_at octets = then_read (identity_at octets) (λ id after.
    if is_short_identifier octets id.tag
    then then_read (length_at after) (λ size rest. strict_head id after size rest)
    else refuse errors.InvalidTag)
