-- Whose keys vouch for which items. Contracts of private functions cite it.
use Rattle.std.specs.Borrow.{Bor}
use Rattle.std.specs.Prelude.{◌≡◌, ℕ, List, Option, Some, None, map, Contains}
use Rattle.cert_graph.specs.Entries.{IsAt}
use Rattle.cert_graph.specs.declared.places.Place.{Place}
use Rattle.cert_model.specs.Class.{Class, certificate, list, other}
use Rattle.cert_model.specs.Octets.{name_octets, key_octets}
use Rattle.cert_judge.specs.ItemGraph.{IsCertificateWith}
use Rattle.cert_judge.specs.Items.{item_of}
use Rattle.cert_judge.specs.Revoking.{Item}
use Rattle.cert_judge.specs.declared.items.ReadItem.{ReadItem}
use Rattle.cert_judge.specs.declared.items.ReadItem.TheVariants.{Certificate as certificate_read, List as list_read, Other as other_read}
use Rattle.certpath_why.specs.Classes.{AreClasses}
use Rattle.certpath_why.specs.Firsts.{AreFirsts}
use Rattle.certpath_why.specs.Holders.{AreHolders, HasMember}
use Rattle.certpath_why.specs.declared.classes.Classes.{Classes}
use Rattle.certpath_why.specs.declared.holders.Holders.{Holders}

-- a certificate or list shows its issuer, and other items show nothing
abbrev pub issued_place : ReadItem → Place
issued_place (certificate_read x) = record { name = Some x.issuer; key = None; id = None }
issued_place (list_read x) = record { name = Some x.issuer; key = None; id = None }
issued_place (other_read octets) = record { name = None; key = None; id = None }

-- a certificate shows its subject and key, and other items show nothing
abbrev pub member_place : ReadItem → Place
member_place (certificate_read x) = record { name = Some x.subject; key = Some x.key; id = None }
member_place (list_read x) = record { name = None; key = None; id = None }
member_place (other_read octets) = record { name = None; key = None; id = None }

-- the issuer of an item
abbrev pub issuer_name : Class → Option (List ℕ)
issuer_name (certificate c) = Some (name_octets c.issuer)
issuer_name (list l) = Some (name_octets l.issuer)
issuer_name other = None

-- the certificate at a position has an item's issuer as its subject, and its key vouches for the item
abbrev pub IsSignedBy : (List ℕ → List ℕ → Type 0) → List Item → Item → ℕ → Type 0
IsSignedBy V others x w = IsAt others w (IsCertificateWith (λ d. (issuer_name x.class ≡ Some (name_octets d.subject)) × V (key_octets d.key) x.octets))

-- it signed the item at one of some places
abbrev pub SignsAny : (List ℕ → List ℕ → Type 0) → List ReadItem → List Item → List ℕ → ℕ → Type 0
SignsAny V items others places w = (p : ℕ) × Contains places p × IsAt items p (λ z. IsSignedBy V others (item_of z) w)

-- the items at some places have this issuer
abbrev pub AreOfIssuer : List ReadItem → List ℕ → List ℕ → Type 0
AreOfIssuer items name places = (p : ℕ) → Contains places p → IsAt items p (λ z. issuer_name (item_of z).class ≡ Some name)

-- The holders are those of some certificates, and their rows are those of the items that they signed.
pub record AreSignedBy (V : List ℕ → List ℕ → Type 0) (items others : List ReadItem) (classes : Classes) (h : Holders) : Type 0 where
  pub octets : List (Bor (List ℕ))
  pub octets_are : map (λ o. o.now) octets ≡ map (λ x. (item_of x).octets) items
  pub classes_are : AreClasses octets classes
  pub holders_are : AreHolders V (map issued_place items) (map member_place others) octets classes (HasMember (map member_place others)) h

-- The first numbers of the rows of such holders: items have one exactly if the keys of the same holders vouch for them.
pub record AreSignedFirsts (V : List ℕ → List ℕ → Type 0) (items others : List ReadItem) (classes : Classes) (firsts : List ℕ) : Type 0 where
  pub holders : Holders
  pub signed_are : AreSignedBy V items others classes holders
  pub firsts_are : AreFirsts holders.rows.items firsts
