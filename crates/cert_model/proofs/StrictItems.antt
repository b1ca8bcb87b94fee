-- Octets of an object that fields write are an item of their class.
use Rattle.std.proofs.Common.{◌≡◌, ◌∙◌, refl, sym, ap, ℕ, arith, length, List, subst}
use Rattle.der_tree.specs.Tree.{Tree, octets}
use Rattle.der_tree.specs.Object.{IsDerObject}
use Rattle.der_tree.specs.Shape.{IsObject}
use Rattle.der_tree.proofs.Leveled.{object_from}
use Rattle.der_tree.proofs.Shapes.{sequence_found}
use Rattle.cert_framing.specs.Framing.{IsItem}
use Rattle.cert_model.specs.Fields.{Certificate, RevocationList}
use Rattle.cert_model.specs.Octets.{sequence_octets, certificate_octets, list_octets}
use Rattle.cert_model.specs.Range.{AreCertificateFields, AreListFields}
use Rattle.cert_model.specs.Class.{IsObjectItem, IsCertificateItem, IsListItem}
use Rattle.cert_model.proofs.Steps.{in_sequence}

-- octets of an object are an item under the greatest limit, if they are a sequence
pub object_item : (s : List ℕ) (t : Tree) (content : List ℕ) → IsObject 50 t → octets t ≡ s → sequence_octets content ≡ s → IsObjectItem s
object_item s t content o is spelled =
    let parts = in_sequence 50 t content o (spelled ∙ sym is) in
    let cut = (sequence_found 50 t parts.0 o parts.1).0 in
    let item : IsItem 4_294_967_295 s = record {
      content = content;
      small = omega (arith, cut.size, ap length parts.2.spelled);
      spelled = sym spelled;
    } in
    record { item = item; object = subst (IsDerObject 50) is (object_from t 50 o) }

pub certificate_item : (t : Tree) (c : Certificate) → IsObject 50 t → AreCertificateFields c → certificate_octets c ≡ octets t → IsCertificateItem (octets t) c
unfolding certificate_octets
certificate_item t c o p e = record { object = object_item (octets t) t _ o refl e; in_range = p; spelled = e }

pub list_item : (t : Tree) (l : RevocationList) → IsObject 50 t → AreListFields l → list_octets l ≡ octets t → IsListItem (octets t) l
unfolding list_octets
list_item t l o p e = record { object = object_item (octets t) t _ o refl e; in_range = p; spelled = e }
