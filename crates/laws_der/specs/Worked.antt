-- Trees with their octets, written out by hand: they try the laws' definitions, not the code.
use Rattle.std.specs.Prelude.{ℕ, true, false, List, [], ◌∷◌}
use Rattle.asn1_core.specs.Elements.{Element}
use Rattle.asn1_core.specs.Strict.{Head}
use Rattle.der_tree.specs.Table.{integer}
use Rattle.der_tree.specs.Tree.{plain, oid, Tree, node, Content, leaf, sequence, set, Trees, none, more}

-- the header of an INTEGER of one octet
abbrev pub five_head : Head
five_head = record { class = 0; constructed = false; tag = 2; size = 1 }

-- the INTEGER 5: 02 01 05
abbrev pub five_octets : List ℕ
five_octets = 0x02 ∷ 0x01 ∷ 0x05 ∷ []

abbrev pub five_element : Element
five_element = record { class = 0; constructed = false; tag = 2; content = 0x05 ∷ [] }

abbrev pub five_content : Content
five_content = leaf (plain integer (0x05 ∷ []))

abbrev pub five_tree : Tree
five_tree = node five_head five_octets five_content

abbrev pub no_trees : Trees
no_trees = none

abbrev pub one_tree : Trees
one_tree = more five_tree no_trees

-- a SEQUENCE of it: 30 03 02 01 05
abbrev pub list_tree : Tree
list_tree = node (record { class = 0; constructed = true; tag = 16; size = 3 }) (0x30 ∷ 0x03 ∷ five_octets) (sequence one_tree)

-- an empty SET: 31 00
abbrev pub set_tree : Tree
set_tree = node (record { class = 0; constructed = true; tag = 17; size = 0 }) (0x31 ∷ 0x00 ∷ []) (set no_trees)

-- the object identifier 1.2.3: 06 02 2a 03
abbrev pub oid_tree : Tree
oid_tree = node (record { class = 0; constructed = false; tag = 6; size = 2 }) (0x06 ∷ 0x02 ∷ 0x2a ∷ 0x03 ∷ []) (leaf (oid (0x2a ∷ 0x03 ∷ [])))
