-- Items that are neither certificates nor lists: they try the laws' definitions, not the code.
use Rattle.std.specs.Prelude.{ℕ, true, List, [], ◌∷◌}
use Rattle.der_tree.specs.Tree.{Tree, node, none, sequence}
use Rattle.cert_model.specs.Class.{other}
use Rattle.cert_judge.specs.Revoking.{Item}

-- a NULL
abbrev pub null_octets : List ℕ
null_octets = 0x05 ∷ 0x00 ∷ []

abbrev pub null_item : Item
null_item = record { octets = null_octets; class = other }

-- an empty SEQUENCE
abbrev pub empty_tree : Tree
empty_tree = node (record { class = 0; constructed = true; tag = 16; size = 0 }) (0x30 ∷ 0x00 ∷ []) (sequence none)
