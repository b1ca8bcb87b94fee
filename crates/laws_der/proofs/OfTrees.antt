-- The worked trees are those of objects.
use Rattle.std.proofs.Common.{◌<◌, ◌-◌, ℕ, true, false, [], ◌∷◌, refl, arith}
use Rattle.asn1_core.specs.Elements.{IsElement}
use Rattle.asn1_oid.specs.Identifier.{IsOidContent, subidentifier_octets}
use Rattle.der_tree.specs.Access.{universal}
use Rattle.der_tree.specs.Object.{IsCut}
use Rattle.der_tree.specs.Shape.{IsObject, IsContent, AreObjects}
use Rattle.laws_der.specs.Worked.{five_content, five_element, five_octets, five_tree, list_tree, oid_tree, one_tree, set_tree}

pub five_is_element : IsElement five_element
five_is_element = record { class = omega arith; tag = omega arith; size = omega arith }

five_cut : IsCut five_octets five_element
five_cut = record { in_range = five_is_element; size = omega arith; octets = refl }

pub five_holds : (k : ℕ) → IsContent k five_element five_content
unfolding IsContent
five_holds k = (record { class = refl; constructed = refl; tag = refl }, refl, refl)

pub five_is_object : (k : ℕ) → 0 < k → IsObject k five_tree
unfolding IsObject
five_is_object k some = (some, five_element, refl, five_cut, five_holds (k - 1))

pub parts : (k : ℕ) → 0 < k → AreObjects k one_tree
unfolding AreObjects
parts k some = (five_is_object k some, tt)

pub list_is_element : IsElement (universal true 16 five_octets)
list_is_element = record { class = omega arith; tag = omega arith; size = omega arith }

pub list_is_object : (k : ℕ) → 1 < k → IsObject k list_tree
unfolding IsObject IsContent
list_is_object k some = (
  omega (arith, some),
  universal true 16 five_octets,
  refl,
  record { in_range = list_is_element; size = omega arith; octets = refl },
  (record { class = refl; constructed = refl; tag = refl }, refl, parts (k - 1) (omega (arith, some))),
)

pub set_is_element : IsElement (universal true 17 [])
set_is_element = record { class = omega arith; tag = omega arith; size = omega arith }

pub set_is_object : IsObject 1 set_tree
unfolding IsObject IsContent AreObjects
set_is_object = (
  omega arith,
  universal true 17 [],
  refl,
  record { in_range = set_is_element; size = omega arith; octets = refl },
  (record { class = refl; constructed = refl; tag = refl }, refl, tt),
)

pub oid_is_element : IsElement (universal false 6 (0x2a ∷ 0x03 ∷ []))
oid_is_element = record { class = omega arith; tag = omega arith; size = omega arith }

identifier : IsOidContent (0x2a ∷ 0x03 ∷ [])
unfolding subidentifier_octets
identifier = record { subidentifiers = 42 ∷ 3 ∷ []; some = λ e. cc; spelled = refl }

pub oid_is_object : IsObject 1 oid_tree
unfolding IsObject IsContent
oid_is_object = (
  omega arith,
  universal false 6 (0x2a ∷ 0x03 ∷ []),
  refl,
  record { in_range = oid_is_element; size = omega arith; octets = refl },
  (record { class = refl; constructed = refl; tag = refl }, refl, identifier),
)
