-- The lengths that the headers of an object give, and those with which its tree was read.
use Rattle.std.specs.Prelude.{◌≡◌, ℕ, List, [], ◌∷◌, ◌++◌, map}
use Rattle.asn1_core.specs.Strict.{Head}
use Rattle.asn1_core.specs.declared.length.Length.{Length}
use Rattle.asn1_core.specs.declared.length.Length.TheVariants.{Definite}
use Rattle.der_tree.specs.declared.object.BerObject.{BerObject, BerObject-F, fold-BerObject}
use Rattle.der_tree.specs.declared.object.BerObjectContent.{BerObjectContent, fold-BerObjectContent}
use Rattle.der_tree.specs.declared.object.BerObjectContent.TheOpen.{BerObjectContent-F}
use Rattle.der_tree.specs.Tree.{Leaf, raw, Tree, node, Content, leaf, sequence, set, Trees, none, more}
use Rattle.der_tree.specs.View.{view}

abbrev pub joined : List (List Length) → List Length
joined [] = []
joined (x ∷ xs) = x ++ joined xs

abbrev pub content_step : BerObjectContent-F (List Length) (List Length) → List Length
content_step (BerObjectContent-F.Sequence v) = joined v.items
content_step (BerObjectContent-F.Set v) = joined v.items
content_step (BerObjectContent-F.Unknown any) = any.header.length ∷ []
content_step _ = []

abbrev pub object_step : BerObject-F (List Length) (List Length) → List Length
object_step x = x.header.length ∷ x.content

-- that of an object's own header, then those of its parts in their order; a raw element gives its
-- own once more
abbrev pub lengths_told : BerObject → List Length
lengths_told = fold-BerObject (List Length) (List Length) content_step object_step

abbrev pub lengths_within : BerObjectContent → List Length
lengths_within = fold-BerObjectContent (List Length) (List Length) content_step object_step

abbrev pub lengths_of_all : List BerObject → List Length
lengths_of_all os = joined (map lengths_told os)

-- what an element without parts gives under a header of this length
abbrev pub leaf_lengths : Length → Leaf → List Length
leaf_lengths length (raw e) = length ∷ []
leaf_lengths length _ = []

-- `own` is the length with which a node was read, by what its header says and its octets
abbrev mutual
  pub lengths_read : (Head → List ℕ → Length) → Tree → List Length
  lengths_read own (node h s c) = own h s ∷ lengths_held own (own h s) c

  pub lengths_held : (Head → List ℕ → Length) → Length → Content → List Length
  lengths_held own length (leaf v) = leaf_lengths length v
  lengths_held own length (sequence ts) = all_lengths own ts
  lengths_held own length (set ts) = all_lengths own ts

  pub all_lengths : (Head → List ℕ → Length) → Trees → List Length
  all_lengths own none = []
  all_lengths own (more t ts) = lengths_read own t ++ all_lengths own ts

-- the definite form: the number of content octets
abbrev pub definite_length : Head → List ℕ → Length
definite_length h s = Definite h.size

-- each header in the object, raw elements' too, gives the definite length of its content
abbrev pub TellsDefinite : BerObject → Type 0
TellsDefinite o = lengths_told o ≡ lengths_read definite_length (view o)

-- a content's headers give such lengths, its element's header giving this one
abbrev pub HoldsDefinite : Length → BerObjectContent → Content → Type 0
HoldsDefinite length c d = lengths_within c ≡ lengths_held definite_length length d

-- a content without parts gives no length, or if it is raw that of its element's header
abbrev pub HoldsOne : Length → BerObjectContent → Content → Type 0
HoldsOne length c (leaf v) = lengths_within c ≡ leaf_lengths length v
HoldsOne length c (sequence ts) = Unit {0}
HoldsOne length c (set ts) = Unit {0}
