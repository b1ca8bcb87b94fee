-- The trees of any octets, as a reader of windows sees them: the element at their front, what it holds by its tag number, and so on.
-- `proofs/WindowTrees` shows that of objects' octets these are the objects' trees.
use Rattle.std.specs.Prelude.{ℕ, zero, suc, ◌==◌, ◌&&◌, not, nat_lt, Bool, if◌then◌else◌, Option, Some, None, List, length, take, drop, Ok, Err}
use Rattle.asn1_core.specs.Answers.{Answer}
use Rattle.asn1_core.specs.Elements.{Element, head_of_element, element_octets}
use Rattle.asn1_core.specs.Reading.{strict_at}
use Rattle.asn1_core.specs.Strict.{Head}
use Rattle.der_tree.specs.Table.{is_listed}
use Rattle.der_tree.specs.Tree.{Leaf, raw, Tree, node, Content, leaf, sequence, set, Trees, none, more}
use Rattle.der_tree.proofs.OneTree.{listed_leaf}

-- the element of a header that takes one at least of so many octets, and the octets after it
abbrev pub element_after : ℕ → Head → List ℕ → Option (Element × List ℕ)
element_after size h after =
    if nat_lt (length after) size && not (nat_lt (length after) h.size)
    then Some (record { class = h.class; constructed = h.constructed; tag = h.tag; content = take h.size after }, drop h.size after)
    else None

abbrev pub part_of : ℕ → Answer Head → Option (Element × List ℕ)
part_of size (Ok p) = element_after size p.0 p.1
part_of size (Err e) = None

-- the element that begins the octets, strictly written, and the octets after it, or none
unfoldable pub part_in : List ℕ → Option (Element × List ℕ)
part_in s = part_of (length s) (strict_at s)

-- a universal element of this tag number
abbrev pub is_universal : ℕ → Element → Bool
is_universal n e = (e.class == 0) && (e.tag == n)

-- a constructed one
abbrev pub is_constructed : ℕ → Element → Bool
is_constructed n e = e.constructed && is_universal n e

abbrev pub leaf_at : Element → Leaf
leaf_at e = if (e.class == 0) && is_listed e.tag then listed_leaf e.tag e else raw e

-- what an element holds whose content's parts are these
abbrev pub held : Trees → Element → Content
held ts e = if is_constructed 16 e then sequence ts else if is_constructed 17 e then set ts else leaf (leaf_at e)

abbrev pub tree_with : Trees → Element → Tree
tree_with ts e = node (head_of_element e) (element_octets e) (held ts e)

abbrev pub trees_with : (List ℕ → Trees) → Option (Element × List ℕ) → Trees
trees_with go None = none
trees_with go (Some p) = more (tree_with (go p.0.content) p.0) (go p.1)

-- in so many steps, of which as many as there are octets are enough
unfoldable pub trees_by : ℕ → List ℕ → Trees
trees_by zero s = none
trees_by (suc n) s = trees_with (trees_by n) (part_in s)

-- the trees of the elements that the octets are
unfoldable pub trees_in : List ℕ → Trees
trees_in s = trees_by (length s) s

-- the tree of an element
unfoldable pub tree_of : Element → Tree
tree_of e = tree_with (trees_in e.content) e
