-- The tree of an object. Each node keeps the octets that it was read from.
use Rattle.std.specs.Prelude.{ℕ, ◌+◌, List, [], ◌++◌, Bool}
use Rattle.asn1_core.specs.Strict.{Head}
use Rattle.asn1_core.specs.Elements.{Element}
use Rattle.der_tree.specs.Table.{Kind}

-- what an element without parts holds: a value, octets as they are, or the element itself, left raw
pub data Leaf : Type 0 where
  end_of_content : Leaf
  boolean : Bool → Leaf
  bit_string : ℕ → List ℕ → Leaf
  null : Leaf
  oid : List ℕ → Leaf
  enumerated : ℕ → Leaf
  plain : Kind → List ℕ → Leaf
  raw : Element → Leaf

-- `node` has what the header says, the octets read, and what they hold; `Trees` is a list of trees
mutual
  pub data Tree : Type 0 where
    node : Head → List ℕ → Content → Tree

  pub data Content : Type 0 where
    leaf : Leaf → Content
    sequence : Trees → Content
    set : Trees → Content

  pub data Trees : Type 0 where
    none : Trees
    more : Tree → Trees → Trees

abbrev pub octets : Tree → List ℕ
octets (node h s c) = s

abbrev pub all_octets : Trees → List ℕ
all_octets none = []
all_octets (more t ts) = octets t ++ all_octets ts

-- how many elements a tree has, itself among them
abbrev mutual
  pub element_count : Tree → ℕ
  element_count (node h s c) = 1 + part_count c

  pub part_count : Content → ℕ
  part_count (leaf v) = 0
  part_count (sequence ts) = all_count ts
  part_count (set ts) = all_count ts

  pub all_count : Trees → ℕ
  all_count none = 0
  all_count (more t ts) = element_count t + all_count ts
