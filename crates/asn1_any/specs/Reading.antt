-- The readers of elements as functions on lists of octets, step by step, with their errors in the
-- order in which they come. The meaning isn't here: `proofs/` shows what they accept, in the words
-- of `DerElements` and `BerElements`.
use Rattle.std.specs.Prelude.{ℕ, zero, suc, ◌-◌, ◌==◌, ◌&&◌, nat_lt, if◌then◌else◌, Option, Some, None, option_map, List, [], ◌∷◌, length, take, drop, Result, Ok, Err}
use Rattle.std.specs.Result.{result_ok}
use Rattle.asn1_core.specs.Strict.{Head}
use Rattle.asn1_core.specs.Lenient.{BerHead}
use Rattle.asn1_core.specs.Elements.{Element}
use Rattle.asn1_core.specs.Answers.{Answer, lack, refuse, then_read}
use Rattle.asn1_core.specs.Reading.{header_at, ber_header_at}
use Rattle.asn1_core.specs.declared.error.Error.{Error}
use Rattle.asn1_core.specs.declared.error.Error.TheVariants as errors
use Rattle.asn1_core.specs.declared.error.Needed.TheVariants as needed
use Rattle.asn1_core.specs.declared.outcome.Err.{Err as Refusal}
use Rattle.asn1_core.specs.declared.outcome.Err.TheVariants as refusals
use Rattle.asn1_any.specs.declared.read.TheConstants.{MAX_RECURSION}
use Rattle.asn1_any.specs.BerElements.{BerElement, element_of_ber}
use Rattle.asn1_any.specs.DerElements.{element_of}

-- so many octets, and those after them
abbrev pub part_at : ℕ → List ℕ → Answer (List ℕ)
part_at n octets = if nat_lt (length octets) n then lack (n - length octets) else Ok (take n octets, drop n octets)

-- the element of a header, and the octets after it
abbrev pub content_at : Head → List ℕ → Answer Element
content_at h after = then_read (part_at h.size after) (λ content rest. Ok (element_of h content, rest))

unfoldable pub der_element_at : List ℕ → Answer Element
der_element_at octets = then_read (header_at octets) content_at

-- the element that begins the octets, and the octets after it, if there is one
abbrev pub any_der : List ℕ → Option (Element × List ℕ)
any_der octets = result_ok (der_element_at octets)

-- the octets after some, or an error
abbrev pub Rest : Type 0
Rest = Result (List ℕ) (Refusal Error)

-- the octets after end-of-contents octets, if these begin them
abbrev pub end_at : List ℕ → Option (List ℕ)
end_at [] = None
end_at (first ∷ []) = None
end_at (first ∷ second ∷ rest) = if (first == 0) && (second == 0) then Some rest else None

-- goes on after a length: past the octets that it counts, or into the content of one more open
-- element
abbrev pub past_length : (ℕ → ℕ → List ℕ → Rest) → ℕ → ℕ → Option ℕ → List ℕ → Rest
past_length go levels nested None after = go levels (suc (suc nested)) after
past_length go levels nested (Some n) after =
    if nat_lt (length after) n then Err (refusals.Incomplete (needed.Size (n - length after))) else go (suc levels) (suc nested) (drop n after)

-- goes on after a header, if a level is left for its element
abbrev pub past_header : (ℕ → ℕ → List ℕ → Rest) → ℕ → ℕ → Answer BerHead → Rest
past_header go levels nested (Err e) = Err e
past_header go zero nested (Ok p) = Err (refusals.Error errors.BerMaxDepth)
past_header go (suc levels) nested (Ok p) = past_length go levels nested p.0.size p.1

-- goes on after end-of-contents octets, or else a header
abbrev pub past_end : (ℕ → ℕ → List ℕ → Rest) → ℕ → ℕ → List ℕ → Option (List ℕ) → Rest
past_end go levels nested octets (Some after) = go (suc levels) nested after
past_end go levels nested octets None = past_header go levels nested (ber_header_at octets)

-- one step, unless no element is open
abbrev pub past_part : (ℕ → ℕ → List ℕ → Rest) → ℕ → ℕ → List ℕ → Rest
past_part go levels zero octets = Ok octets
past_part go levels (suc nested) octets = past_end go levels nested octets (end_at octets)

-- past the contents of as many elements as are open, the innermost first, in at most so many steps;
-- `levels` are left for elements within the innermost
unfoldable pub past_contents : ℕ → ℕ → ℕ → List ℕ → Rest
past_contents zero levels zero octets = Ok octets
past_contents zero levels (suc nested) octets = Err (refusals.Incomplete (needed.Size 1))
past_contents (suc steps) levels nested octets = past_part (past_contents steps) levels nested octets

-- an element of a BER header and the octets to those after its end-of-contents octets
abbrev pub indefinite_at : BerHead → List ℕ → Rest → Answer BerElement
indefinite_at h after (Err e) = Err e
indefinite_at h after (Ok rest) = Ok (record { head = h; content = take (length after - length rest - 2) after }, rest)

-- by what a length says
abbrev pub sized_at : ℕ → BerHead → Option ℕ → List ℕ → Answer BerElement
sized_at levels h (Some n) after = then_read (part_at n after) (λ content rest. Ok (record { head = h; content = content }, rest))
sized_at levels h None after = indefinite_at h after (past_contents (length after) levels 1 after)

-- the element of a header, and the octets after it
abbrev pub ber_content_at : ℕ → BerHead → List ℕ → Answer BerElement
ber_content_at levels h after = sized_at levels h h.size after

-- an element of at most so many levels beside its own
unfoldable pub ber_element_at : ℕ → List ℕ → Answer BerElement
ber_element_at levels octets = then_read (ber_header_at octets) (ber_content_at levels)

-- an element of at most so many levels, its own counted: if none is left, the header is read and
-- rejected
abbrev pub ber_levels_at : ℕ → List ℕ → Answer BerElement
ber_levels_at zero octets = then_read (ber_header_at octets) (λ h after. refuse errors.BerMaxDepth)
ber_levels_at (suc levels) octets = ber_element_at levels octets

-- the BER element that begins the octets, and the octets after it, if there is one of at most 50
-- levels
abbrev pub any_ber : List ℕ → Option (Element × List ℕ)
any_ber octets = option_map (λ p. (element_of_ber p.0, p.1)) (result_ok (ber_element_at (MAX_RECURSION - 1) octets))
