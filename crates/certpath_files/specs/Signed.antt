-- SignedData in DER: ContentInfo (RFC 5652, 3) and SignedData (RFC 5652, 5.1). This page is to be
-- believed. Each element down to the two sets is in its strict spelling, so there is no indefinite
-- length.
use Rattle.std.specs.Prelude.{ℕ, ◌==◌, if◌then◌else◌, List, [], ◌∷◌, bytes_eq, Option, Some, None, option_and_then}
use Rattle.certpath_files.specs.Parts.{Part, strict_part_at}
use Rattle.certpath_files.specs.Shapes.{is_none}

-- the content of the two sets; that of one which isn't there is empty
pub record Sets : Type 0 where
  pub certificates : List ℕ
  pub lists : List ℕ

abbrev pub if_first : ℕ → Part → Option Part
if_first first part = if part.first == first then Some part else None

-- the element at the front, if it has this first octet
abbrev pub strict_as : ℕ → List ℕ → Option Part
strict_as first octets = option_and_then (if_first first) (strict_part_at octets)

abbrev pub if_alone : Part → Option (List ℕ)
if_alone part = if is_none part.rest then Some part.content else None

-- the content of the one element that the octets are, if it has this first octet
abbrev pub only_as : ℕ → List ℕ → Option (List ℕ)
only_as first octets = option_and_then if_alone (strict_as first octets)

abbrev pub optional_by : ℕ → List ℕ → Option Part → Part
optional_by first octets (Some part) = part
optional_by first octets None = record { first = first; content = []; rest = octets }

abbrev pub optional_as : ℕ → List ℕ → Part
optional_as first octets = optional_by first octets (strict_as first octets)

-- id-signedData, 1.2.840.113549.1.7.2
abbrev pub signed_data_identifier : List ℕ
signed_data_identifier = 42 ∷ 134 ∷ 72 ∷ 134 ∷ 247 ∷ 13 ∷ 1 ∷ 7 ∷ 2 ∷ []

abbrev pub explicit_content : Part → Option (List ℕ)
explicit_content identifier =
    if bytes_eq identifier.content signed_data_identifier then option_and_then (only_as 48) (only_as 160 identifier.rest) else None

-- SEQUENCE { contentType OBJECT IDENTIFIER, content [0] EXPLICIT SEQUENCE { .. } }: what is in
-- the inner one
abbrev pub content_of_info : List ℕ → Option (List ℕ)
content_of_info octets = option_and_then (λ info. option_and_then explicit_content (strict_as 6 info)) (only_as 48 octets)

abbrev pub sets_by : Part → Part → Option (List ℕ) → Option Sets
sets_by certificates lists None = None
sets_by certificates lists (Some signers) = Some (record { certificates = certificates.content; lists = lists.content })

abbrev pub lists_after : Part → Part → Option Sets
lists_after certificates lists = sets_by certificates lists (only_as 49 lists.rest)

-- certificates [0] IMPLICIT SET OPTIONAL, crls [1] IMPLICIT SET OPTIONAL, signerInfos SET
abbrev pub sets_after : List ℕ → Option Sets
sets_after octets = lists_after (optional_as 160 octets) (optional_as 161 (optional_as 160 octets).rest)

-- version INTEGER, digestAlgorithms SET, encapContentInfo SEQUENCE, and then those
abbrev pub sets_in : List ℕ → Option Sets
sets_in content =
    option_and_then (λ version. option_and_then (λ digests. option_and_then (λ encapsulated. sets_after encapsulated.rest)
    (strict_as 48 digests.rest)) (strict_as 49 version.rest)) (strict_as 2 content)

-- the two sets of a ContentInfo that holds SignedData
abbrev pub signed_sets : List ℕ → Option Sets
signed_sets octets = option_and_then sets_in (content_of_info octets)
