-- What an octet string is: a certificate or a list in its one spelling, or something else.
use Rattle.std.specs.Prelude.{◌≡◌, ℕ, List}
use Rattle.cert_framing.specs.Framing.{IsItem}
use Rattle.der_tree.specs.Object.{IsDerObject}
use Rattle.cert_model.specs.Fields.{Certificate, RevocationList}
use Rattle.cert_model.specs.Octets.{certificate_octets, list_octets}
use Rattle.cert_model.specs.Range.{AreCertificateFields, AreListFields}

-- an item under the greatest limit, and a DER object of at most 50 levels
pub record IsObjectItem (octets : List ℕ) : Type 0 where
  pub item : IsItem 4_294_967_295 octets
  pub object : IsDerObject 50 octets

-- the octets that these fields, in range, write
pub record IsCertificateItem (octets : List ℕ) (c : Certificate) : Type 0 where
  pub object : IsObjectItem octets
  pub in_range : AreCertificateFields c
  pub spelled : certificate_octets c ≡ octets

pub record IsListItem (octets : List ℕ) (l : RevocationList) : Type 0 where
  pub object : IsObjectItem octets
  pub in_range : AreListFields l
  pub spelled : list_octets l ≡ octets

-- the class with its fields
pub data Class : Type 0 where
  certificate : Certificate → Class
  list : RevocationList → Class
  other : Class

abbrev pub IsClassOf : List ℕ → Class → Type 0
IsClassOf octets (certificate c) = IsCertificateItem octets c
IsClassOf octets (list l) = IsListItem octets l
IsClassOf octets other = ((c : Certificate) → ¬ IsCertificateItem octets c) × ((l : RevocationList) → ¬ IsListItem octets l)

-- no fields of a certificate write these octets
abbrev pub NoCertificate : List ℕ → Type 0
NoCertificate s = (c : Certificate) → AreCertificateFields c → certificate_octets c ≡ s → ⊥

abbrev pub NoList : List ℕ → Type 0
NoList s = (l : RevocationList) → AreListFields l → list_octets l ≡ s → ⊥
