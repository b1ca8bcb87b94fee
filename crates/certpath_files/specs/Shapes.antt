-- The shapes of certificates and revocation lists, by the first octets of their parts (RFC 5280,
-- 4.1 and 5.1). This page is to be believed. Headers may have any definite form: what an item is
-- besides its shape is judged later.
use Rattle.std.specs.Prelude.{ℕ, ◌==◌, Bool, true, false, ◌&&◌, ◌||◌, if◌then◌else◌, List, [], ◌∷◌, Option, Some, None, option_and_then}
use Rattle.certpath_files.specs.Parts.{Part, part_at}

pub data Kind : Type 0 where
  certificate : Kind
  list : Kind

abbrev pub is_none : List ℕ → Bool
is_none [] = true
is_none (octet ∷ octets) = false

abbrev pub is_next : ℕ → (List ℕ → Bool) → Option Part → Bool
is_next first after None = false
is_next first after (Some part) = if part.first == first then after part.rest else false

-- elements with these first octets begin the octets, one after another
abbrev pub begins_with_parts : List ℕ → List ℕ → Bool
begins_with_parts [] octets = true
begins_with_parts (first ∷ firsts) octets = is_next first (begins_with_parts firsts) (part_at octets)

abbrev pub after_by : ℕ → List ℕ → Option Part → List ℕ
after_by first octets None = octets
after_by first octets (Some part) = if part.first == first then part.rest else octets

-- the octets after an element with this first octet, if one begins them
abbrev pub after_optional : ℕ → List ℕ → List ℕ
after_optional first octets = after_by first octets (part_at octets)

-- version [0], if it is there; serialNumber, signature, issuer, validity, subject,
-- subjectPublicKeyInfo
abbrev pub is_certificate : List ℕ → Bool
is_certificate content = begins_with_parts (2 ∷ 48 ∷ 48 ∷ 48 ∷ 48 ∷ 48 ∷ []) (after_optional 160 content)

-- signature, issuer, thisUpdate as a UTCTime or a GeneralizedTime
abbrev pub is_list_after : List ℕ → Bool
is_list_after parts = begins_with_parts (48 ∷ 48 ∷ 23 ∷ []) parts || begins_with_parts (48 ∷ 48 ∷ 24 ∷ []) parts

-- version, if it is there, before them
abbrev pub is_list : List ℕ → Bool
is_list content = is_list_after (after_optional 2 content)

-- what is signed, an algorithm, a BIT STRING, and nothing after it: the content of the first one
abbrev pub of_three : Part → Part → Part → Option (List ℕ)
of_three signed algorithm signature =
    if (signed.first == 48) && (algorithm.first == 48) && (signature.first == 3) && is_none signature.rest then Some signed.content else None

abbrev pub signed_content : List ℕ → Option (List ℕ)
signed_content octets =
    option_and_then (λ whole. option_and_then (λ signed. option_and_then (λ algorithm. option_and_then (λ signature. of_three signed algorithm signature)
    (part_at algorithm.rest)) (part_at signed.rest)) (part_at whole.content)) (part_at octets)

abbrev pub kind_by : List ℕ → Option Kind
kind_by content = if is_certificate content then Some certificate else if is_list content then Some list else None

-- what an element is by its shape
abbrev pub kind_of : List ℕ → Option Kind
kind_of octets = option_and_then kind_by (signed_content octets)
