-- The order in which the components of a SET OF are written (X.690, 11.6): ascending, their
-- encodings being compared octet by octet from the first on. No encoding of an element is the
-- beginning of another, so that the octets that the standard pads shorter ones with never decide.
use Rattle.std.specs.Prelude.{◌≡◌, ℕ, Bool, false, cond, Option, List, [], ◌∷◌, map}
use Rattle.std.specs.List.Sorted.{IsPermutation}
use Rattle.std.specs.Cmp.Lexicographic.{slice_cmp}
use Rattle.std.specs.Ordering.{nat_cmp, is_gt}
use Rattle.asn1_core.specs.Elements.{Element}
use Rattle.asn1_traits.specs.Writes.{written}
use Rattle.asn1_traits.specs.Lists.{container_of}

-- the first octets come after the second ones
abbrev pub comes_after : List ℕ → List ℕ → Bool
comes_after xs ys = is_gt (slice_cmp nat_cmp xs ys)

-- they come after none of these
abbrev pub AfterNone : List ℕ → List (List ℕ) → Type 0
AfterNone xs [] = Unit {0}
AfterNone xs (ys ∷ rest) = (comes_after xs ys ≡ false) × AfterNone xs rest

-- no list comes after one that follows it
abbrev pub Ascending : List (List ℕ) → Type 0
Ascending [] = Unit {0}
Ascending (xs ∷ rest) = AfterNone xs rest × Ascending rest

-- a value before the first that its octets don't come after
abbrev pub put_in_order : {V : Type 0} → (V → List ℕ) → V → List V → List V
put_in_order key v [] = v ∷ []
put_in_order key v (w ∷ ws) = cond (comes_after (key v) (key w)) (w ∷ put_in_order key v ws) (v ∷ w ∷ ws)

-- the values in ascending order of their octets
abbrev pub in_order : {V : Type 0} → (V → List ℕ) → List V → List V
in_order key [] = []
in_order key (v ∷ vs) = put_in_order key v (in_order key vs)

-- what is written of each
abbrev pub encodings : {V : Type 0} → (V → Option Element) → List V → List (List ℕ)
encodings element vs = map (λ v. written (element v)) vs

-- the values in the order in which a set is written
abbrev pub set_order : {V : Type 0} → (V → Option Element) → List V → List V
set_order element vs = in_order (λ v. written (element v)) vs

-- the set of these values
abbrev pub set_of : {V : Type 0} → (V → Option Element) → List V → Element
set_of element vs = container_of 17 element (set_order element vs)

-- sets whose values are written as equal octets, in any order, are written as equal elements; so
-- are sets of equal values
abbrev pub EqualSets : {V : Type 0} → (V → Option Element) → Type 0
EqualSets {V} element = (vs ws : List V) → IsPermutation (encodings element vs) (encodings element ws) → set_of element vs ≡ set_of element ws

abbrev pub ReorderedSets : {V : Type 0} → (V → Option Element) → Type 0
ReorderedSets {V} element = (vs ws : List V) → IsPermutation vs ws → set_of element vs ≡ set_of element ws

-- what is put in order are the values, and their encodings ascend then; only one list of encodings
-- does
abbrev pub IsInOrder : {V : Type 0} → (V → Option Element) → Type 0
IsInOrder {V} element = (vs : List V) → IsPermutation vs (set_order element vs) × Ascending (encodings element (set_order element vs))

abbrev pub OneOrder : Type 0
OneOrder = (left right : List (List ℕ)) → Ascending left → Ascending right → IsPermutation left right → left ≡ right
