-- What is written of a tree: a strict header, its length that of the content, and the content as it is held.
use Rattle.std.specs.Prelude.{◌≡◌, ℕ, ◌+◌, nat_lt, List, [], ◌∷◌, ◌++◌, length, Option, if◌then◌else◌}
use Rattle.std.specs.Int.Digits.{digits_of}
use Rattle.asn1_core.specs.Strict.{Head, strict_header}
use Rattle.asn1_core.specs.declared.serialize.SerializeError.{SerializeError}
use Rattle.asn1_core.specs.declared.serialize.SerializeError.TheVariants.{IOError, OutOfMemory}
use Rattle.asn1_device.specs.Counts.{AppendsFront}
use Rattle.der_tree.specs.Tree.{Leaf, end_of_content, boolean, bit_string, null, oid, enumerated, plain, raw, Tree, node, Content, leaf, sequence, set, Trees, none, more}

-- digits of base 256 as two's complement: after 00 if the first bit is 1, and one octet at least
-- (X.690, 8.3)
abbrev pub positive : List ℕ → List ℕ
positive [] = 0 ∷ []
positive (d ∷ ds) = if nat_lt d 128 then d ∷ ds else 0 ∷ d ∷ ds

abbrev pub leaf_octets : Leaf → List ℕ
leaf_octets end_of_content = []
leaf_octets (boolean b) = (if b then 255 else 0) ∷ []
leaf_octets (bit_string unused s) = unused ∷ s
leaf_octets null = []
leaf_octets (oid s) = s
leaf_octets (enumerated n) = positive (digits_of 256 n)
leaf_octets (plain k s) = s
leaf_octets (raw e) = e.content

-- the header with another length
abbrev pub sized : Head → ℕ → Head
sized h n = record { class = h.class; constructed = h.constructed; tag = h.tag; size = n }

abbrev mutual
  pub encoded : Tree → List ℕ
  encoded (node h s c) = strict_header (sized h (length (encoded_content c))) ++ encoded_content c

  pub encoded_content : Content → List ℕ
  encoded_content (leaf v) = leaf_octets v
  encoded_content (sequence ts) = all_encoded ts
  encoded_content (set ts) = all_encoded ts

  pub all_encoded : Trees → List ℕ
  all_encoded none = []
  all_encoded (more t ts) = encoded t ++ all_encoded ts

-- why octets were not written to a device whose contents and failures were and are these
abbrev pub NotWritten : Option (List ℕ) → Option (List ℕ) → ℕ → ℕ → List ℕ → SerializeError → Type 0
NotWritten old new before after octets IOError = AppendsFront old new octets × (after ≡ before + 1)
NotWritten old new before after octets OutOfMemory = (new ≡ old) × (after ≡ before)
NotWritten old new before after octets _ = ⊥
