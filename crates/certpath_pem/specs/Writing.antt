-- Octets as PEM (RFC 7468, 2 and 3; RFC 4648, 4). This page is to be believed.
use Rattle.std.specs.Prelude.{ℕ, zero, suc, List, [], ◌∷◌, ◌++◌}
use Rattle.base64.specs.Engines.{standard}
use Rattle.base64.specs.GeneralPurpose.{encode_of}
use Rattle.certpath_pem.specs.Lines.{line_feed}
use Rattle.certpath_pem.specs.Labels.{begin_words, end_words, dashes}

-- how many octets of base64 a line has, but for the last one
abbrev pub line_width : ℕ
line_width = 64

-- these octets in lines, each ended by an LF; the first line has room for so many
abbrev pub wrapped_from : ℕ → List ℕ → List ℕ
wrapped_from room [] = line_feed ∷ []
wrapped_from zero (octet ∷ octets) = line_feed ∷ octet ∷ wrapped_from 63 octets
wrapped_from (suc room) (octet ∷ octets) = octet ∷ wrapped_from room octets

abbrev pub wrapped : List ℕ → List ℕ
wrapped = wrapped_from line_width

-- a line that begins or ends a block
abbrev pub boundary_line : List ℕ → List ℕ → List ℕ
boundary_line words label = (words ++ (label ++ dashes)) ++ line_feed ∷ []

-- the octets as a block of this label
abbrev pub pem_of : List ℕ → List ℕ → List ℕ
pem_of label octets = boundary_line begin_words label ++ wrapped (encode_of standard octets) ++ boundary_line end_words label
