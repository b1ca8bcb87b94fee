-- How many headers are tried at least if an item is read.
use Rattle.std.specs.Prelude.{◌≡◌, ◌+◌, ◌≤◌, ℕ, List}
use Rattle.der_tree.specs.Shape.{IsObject}
use Rattle.der_tree.specs.Tree.{Tree, octets, element_count}
use Rattle.cert_model.specs.Class.{Class, certificate, list, other}

-- each element of the tree that the octets are, and so many more
abbrev pub TriesMore : ℕ → List ℕ → ℕ → ℕ → Type 0
TriesMore more item before after = (t : Tree) → IsObject 50 t → octets t ≡ item → before + element_count t + more ≤ after

abbrev pub TriesTree : List ℕ → ℕ → ℕ → Type 0
TriesTree item before after = (t : Tree) → IsObject 50 t → octets t ≡ item → before + element_count t ≤ after

-- 17 for a certificate's elements, 9 for a list's
abbrev pub HasTried : List ℕ → Class → ℕ → ℕ → Type 0
HasTried item (certificate c) before after = TriesMore 17 item before after
HasTried item (list l) before after = TriesMore 9 item before after
HasTried item other before after = Unit {0}
