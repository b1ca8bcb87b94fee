-- The trees of DER objects of at most k levels, node by node. `levels_and_trees` says that an object is what has one.
use Rattle.std.specs.Prelude.{◌≡◌, ℕ, ◌-◌, ◌<◌, List, [], ◌∷◌, ◌++◌, IsTrue, if◌then◌else◌}
use Rattle.std.specs.Int.Digits.{number_from_digits}
use Rattle.asn1_core.specs.Elements.{Element, head_of_element}
use Rattle.asn1_oid.specs.Identifier.{IsOidContent}
use Rattle.der_tree.specs.Table.{tag_of, Allows, IsPrimitive, IsConstructed, IsRaw, IsEnumerated, is_bit_string}
use Rattle.der_tree.specs.Object.{IsCut}
use Rattle.der_tree.specs.Tree.{Leaf, end_of_content, boolean, bit_string, null, oid, enumerated, plain, raw, Tree, node, Content, leaf, sequence, set, Trees, none, more, octets, all_octets}

-- a line of the table, with the value that the content holds
abbrev pub Holds : Element → Leaf → Type 0
Holds e end_of_content = ⊥
Holds e (boolean b) = IsPrimitive e 1 × (e.content ≡ (if b then 255 else 0) ∷ [])
Holds e (bit_string unused s) = IsPrimitive e 3 × (e.content ≡ unused ∷ s) × IsTrue (is_bit_string e.content)
Holds e null = IsPrimitive e 5 × (e.content ≡ [])
Holds e (oid s) = IsPrimitive e 6 × (s ≡ e.content) × IsOidContent e.content
Holds e (enumerated n) = IsPrimitive e 10 × (n ≡ number_from_digits 256 e.content) × IsEnumerated e.content
Holds e (plain k s) = IsPrimitive e (tag_of k) × (s ≡ e.content) × Allows k e.content
Holds e (raw f) = IsRaw e × (f ≡ e)

abbrev pub HoldsLeaf : Element → Content → Type 0
HoldsLeaf e (leaf v) = Holds e v
HoldsLeaf e (sequence ts) = ⊥
HoldsLeaf e (set ts) = ⊥

unfoldable mutual
  -- a tree of an object of at most k levels
  pub IsObject : ℕ → Tree → Type 0
  IsObject k (node h s c) = (0 < k) × (e : Element) × (h ≡ head_of_element e) × IsCut s e × IsContent (k - 1) e c

  -- what the element holds, its parts being of at most k levels
  pub IsContent : ℕ → Element → Content → Type 0
  IsContent k e (leaf v) = Holds e v
  IsContent k e (sequence ts) = IsConstructed e 16 × (e.content ≡ all_octets ts) × AreObjects k ts
  IsContent k e (set ts) = IsConstructed e 17 × (e.content ≡ all_octets ts) × AreObjects k ts

  pub AreObjects : ℕ → Trees → Type 0
  AreObjects k none = Unit {0}
  AreObjects k (more t ts) = IsObject k t × AreObjects k ts

-- the octets have a tree of at most k levels
abbrev pub HasTree : ℕ → List ℕ → Type 0
HasTree k s = (t : Tree) × IsObject k t × (octets t ≡ s)

-- an object of at most k levels begins the octets
abbrev pub BeginsWithObject : ℕ → List ℕ → Type 0
BeginsWithObject k s = (t : Tree) × (rest : List ℕ) × IsObject k t × (s ≡ octets t ++ rest)
