-- What the gate says of an item, and what fields say that write an object.
use Rattle.std.proofs.Common.{arith, ◌≡◌, ◌∙◌, sym, subst, ℕ, ◌+◌, List}
use Rattle.der_tree.specs.Object.{IsDerObject}
use Rattle.der_tree.specs.Shape.{IsObject}
use Rattle.der_tree.specs.Tree.{Tree, octets, element_count}
use Rattle.der_tree.proofs.Leveled.{object_to}
use Rattle.cert_model.specs.Fields.{Certificate, RevocationList}
use Rattle.cert_model.specs.Octets.{certificate_octets, list_octets}
use Rattle.cert_model.specs.Range.{AreCertificateFields, AreListFields}
use Rattle.cert_model.specs.Class.{IsCertificateItem, IsListItem, IsClassOf, other}
use Rattle.cert_model.proofs.StrictItems.{certificate_item, list_item}
use Rattle.certpath_typed.specs.Tried.{TriesTree}

-- one header for each element of the object is no fewer
pub each_tried : (item : List ℕ) (before after : ℕ) → ((t : Tree) → IsObject 50 t → octets t ≡ item → after ≡ before + element_count t) → TriesTree item before after
each_tried item before after exact t o is = omega (arith, exact t o is)

pub no_object : (item : List ℕ) → (IsDerObject 50 item → ⊥) → IsClassOf item other
no_object item refused = (λ c p. refused p.object.object, λ l p. refused p.object.object)

pub strict_certificate : (item : List ℕ) (c : Certificate) → IsDerObject 50 item → AreCertificateFields c → certificate_octets c ≡ item → IsCertificateItem item c
strict_certificate item c p range spelled =
    let t = object_to 50 item p in
    subst (λ s. IsCertificateItem s c) t.2 (certificate_item t.0 c t.1 range (spelled ∙ sym t.2))

pub strict_list : (item : List ℕ) (l : RevocationList) → IsDerObject 50 item → AreListFields l → list_octets l ≡ item → IsListItem item l
strict_list item l p range spelled =
    let t = object_to 50 item p in
    subst (λ s. IsListItem s l) t.2 (list_item t.0 l t.1 range (spelled ∙ sym t.2))
