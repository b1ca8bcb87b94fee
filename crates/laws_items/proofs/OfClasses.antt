-- A NULL is neither a certificate nor a list, and an empty SEQUENCE is an object with a fault as each.
use Rattle.std.proofs.Common.{◌≡◌, ap, refl, ℕ, true, List, [], ◌∷◌, get_or, arith}
use Rattle.std.proofs.lemmas.List.Elements.{All-from_recursion}
use Rattle.asn1_core.specs.Elements.{IsElement}
use Rattle.der_tree.specs.Access.{universal}
use Rattle.der_tree.specs.Shape.{IsObject, IsContent, AreObjects}
use Rattle.cert_model.specs.Class.{IsClassOf, IsObjectItem, other}
use Rattle.cert_judge.specs.Classed.{AreClassed}
use Rattle.cert_judge.specs.Revoking.{Item}
use Rattle.cert_faults.specs.declared.places.Expected.TheVariants.{Sequence}
use Rattle.cert_faults.specs.declared.places.Field.TheVariants.{TbsCertificate, TbsCertList}
use Rattle.cert_faults.specs.Items.{before, IsCertificateFault, IsListFault}
use Rattle.cert_faults.specs.Steps.{missing, whole}
use Rattle.laws_items.specs.Classes.{empty_tree, null_item, null_octets}

-- an item begins with 30
no_item : IsObjectItem null_octets → ⊥
no_item is = let first : 5 ≡ 48 = ap (λ (s : List ℕ). get_or s 0 0) is.item.spelled in omega (arith, first)

pub null_is_other : IsClassOf null_octets other
null_is_other = (λ c is. no_item is.object, λ l is. no_item is.object)

pub null_classed : AreClassed (null_octets ∷ []) (null_item ∷ [])
null_classed = record { octets_are = refl; classes = All-from_recursion (λ (x : Item). IsClassOf x.octets x.class) (null_item ∷ []) (null_is_other, tt) }

empty_is_element : IsElement (universal true 16 [])
empty_is_element = record { class = omega arith; tag = omega arith; size = omega arith }

pub empty_is_object : IsObject 50 empty_tree
unfolding IsObject IsContent AreObjects
empty_is_object = (
  omega arith,
  universal true 16 [],
  refl,
  record { in_range = empty_is_element; size = omega arith; octets = refl },
  (record { class = refl; constructed = refl; tag = refl }, refl, tt),
)

pub no_certificate : IsCertificateFault 2 empty_tree (missing (whole TbsCertificate) Sequence 0)
no_certificate = before refl

pub no_list : IsListFault 2 empty_tree (missing (whole TbsCertList) Sequence 0)
no_list = before refl
