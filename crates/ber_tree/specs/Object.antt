-- BER objects of at most k levels and their trees (X.690, 8.1). A tree keeps in each node the
-- octets that it is read from.
use Rattle.std.specs.Prelude.{◌≡◌, ◌⊎◌, ℕ, ◌-◌, ◌<◌, ◌≤◌, false, Option, Some, None, IfSome, List, ◌++◌, length}
use Rattle.asn1_core.specs.Strict.{Head}
use Rattle.asn1_core.specs.Elements.{Element}
use Rattle.asn1_core.specs.Lenient.{BerHead, IsBerHead, SpellsBerHeader}
use Rattle.asn1_any.specs.BerElements.{BerElement, AreAll, IsWithin, end_of_contents, element_of_ber}
use Rattle.der_tree.specs.Table.{IsConstructed}
use Rattle.der_tree.specs.Tree.{Tree, node, Content, leaf, sequence, set, Trees, none, more, end_of_content, octets, all_octets}
use Rattle.ber_tree.specs.Table.{HoldsBer}

-- what a node keeps of a header: 0 for the indefinite form
abbrev pub told : Option ℕ → ℕ
told (Some n) = n
told None = 0

abbrev pub head_in : BerHead → Head
head_in h = record { class = h.class; constructed = h.constructed; tag = h.tag; size = told h.size }

-- the octets after a header: as many as a definite length says, or a content and end-of-contents
-- octets
abbrev pub Ends : Option ℕ → List ℕ → List ℕ → Type 0
Ends (Some n) content body = (n ≡ length content) × (body ≡ content)
Ends None content body = body ≡ content ++ end_of_contents

-- the octets are a header in any form of BER, its definite length at most 4,294,967,295, and what
-- that header counts
pub record IsBerCut (s : List ℕ) (e : BerElement) : Type 0 where
  pub header : List ℕ
  pub body : List ℕ
  pub in_range : IsBerHead e.head
  pub small : IfSome e.head.size (λ n. n ≤ 4_294_967_295)
  pub spells : SpellsBerHeader header e.head
  pub ends : Ends e.head.size e.content body
  pub octets : s ≡ header ++ body

-- where an indefinite content ends that isn't read into objects: it is elements of at most so many
-- levels
abbrev pub IsDelimited : ℕ → Option ℕ → List ℕ → Type 0
IsDelimited k (Some n) s = Unit {0}
IsDelimited k None s = AreAll (IsWithin k) s

abbrev pub IsEnded : ℕ → BerElement → Content → Type 0
IsEnded k e (leaf v) = IsDelimited k e.head.size e.content
IsEnded k e (sequence ts) = Unit {0}
IsEnded k e (set ts) = Unit {0}

unfoldable mutual
  -- a tree of an object of at most k levels; each element takes a level
  pub IsBerObject : ℕ → Tree → Type 0
  IsBerObject k (node h s c) = (0 < k) × (e : BerElement) × (h ≡ head_in e.head) × IsBerCut s e × IsEnded (k - 1) e c × IsBerContent (k - 1) (element_of_ber e) c

  -- what the element holds, its parts being of at most k levels
  pub IsBerContent : ℕ → Element → Content → Type 0
  IsBerContent k e (leaf v) = HoldsBer e v
  IsBerContent k e (sequence ts) = IsConstructed e 16 × (e.content ≡ all_octets ts) × AreBerObjects k ts
  IsBerContent k e (set ts) = IsConstructed e 17 × (e.content ≡ all_octets ts) × AreBerObjects k ts

  pub AreBerObjects : ℕ → Trees → Type 0
  AreBerObjects k none = Unit {0}
  AreBerObjects k (more t ts) = IsBerObject k t × AreBerObjects k ts

-- an object of at most k levels begins the octets
abbrev pub BeginsWithBerObject : ℕ → List ℕ → Type 0
BeginsWithBerObject k s = (t : Tree) × (rest : List ℕ) × IsBerObject k t × (s ≡ octets t ++ rest)

-- end-of-contents octets by themselves (X.690, 8.1.5)
abbrev pub end_tree : Tree
end_tree = node (record { class = 0; constructed = false; tag = 0; size = 0 }) end_of_contents (leaf end_of_content)

-- what is read at the top: an object, or end-of-contents octets, which take a level, too
abbrev pub IsBerTree : ℕ → Tree → Type 0
IsBerTree k t = IsBerObject k t ⊎ ((0 < k) × (t ≡ end_tree))

abbrev pub BeginsWithBerTree : ℕ → List ℕ → Type 0
BeginsWithBerTree k s = (t : Tree) × (rest : List ℕ) × IsBerTree k t × (s ≡ octets t ++ rest)
