-- The graph of classed items.
use Rattle.std.specs.Prelude.{◌≡◌, ℕ, Bool, false, List, length, map, slice_index_or, nat_eq}
use Rattle.std.specs.Cmp.Lexicographic.{pointwise}
use Rattle.cert_graph.specs.declared.reach.Reach.{Reach}
use Rattle.cert_graph.specs.declared.reach.Reach.TheVariants.{No}
use Rattle.cert_graph.specs.Graph.{Graph}
use Rattle.cert_graph.specs.Entries.{IsAt}
use Rattle.cert_model.specs.Fields.{Certificate}
use Rattle.cert_model.specs.Octets.{name_octets, key_octets}
use Rattle.cert_model.specs.Class.{Class, certificate, list, other}
use Rattle.cert_model.specs.KeyIds.{IsAuthorityKeyId, IsSubjectKeyId}
use Rattle.cert_judge.specs.Judging.{IsUsable, IsFitIssuer}
use Rattle.cert_judge.specs.Limits.{path_limit}
use Rattle.cert_judge.specs.Revoking.{Item, JudgingContext, IsSatisfied}

-- an item is a certificate with a property
abbrev pub IsCertificateWith : (Certificate → Type 0) → Item → Type 0
IsCertificateWith P x = (c : Certificate) × (x.class ≡ certificate c) × P c

-- Issued under a name and key: its issuer is the name, the key vouches for it, and it is satisfied.
pub record IsIssuedUnder (r : JudgingContext) (items : List Item) (x : Item) (c : Certificate) (name key : List ℕ) : Type 0 where
  pub issuer : name_octets c.issuer ≡ name
  pub vouched : r.Vouches key x.octets
  pub satisfied : IsSatisfied r items name key c.serial

-- if the one names its issuer's key and the other its own, they agree
abbrev pub KeyIdsAgree : Certificate → Certificate → Type 0
KeyIdsAgree c d = (a s : List ℕ) → IsAuthorityKeyId c a → IsSubjectKeyId d s → a ≡ s

-- A link from a certificate to one under whose name and key it was issued.
abbrev pub IsLink : JudgingContext → List Item → Item → Item → Type 0
IsLink r items x y = IsCertificateWith (λ c. IsCertificateWith (λ d. IsIssuedUnder r items x c (name_octets d.subject) (key_octets d.key) × KeyIdsAgree c d) y) x

-- a link to an anchor, of which the subject and the key count and nothing else (RFC 5280, 6.1.1, d)
abbrev pub IsAnchorLink : JudgingContext → List Item → Item → Item → Type 0
IsAnchorLink r items x a = IsCertificateWith (λ c. IsCertificateWith (λ d. IsIssuedUnder r items x c (name_octets d.subject) (key_octets d.key)) a) x

-- subject and issuer are equal octets (RFC 5280, 6.1)
abbrev pub self_issued_of : Class → Bool
self_issued_of (certificate c) = pointwise nat_eq (name_octets c.subject) (name_octets c.issuer)
self_issued_of (list l) = false
self_issued_of other = false

-- the path length constraint; of no matter if the item is no fit issuer
abbrev pub limit_of : Class → Reach
limit_of (certificate c) = path_limit c
limit_of (list l) = No
limit_of other = No

-- The graph of classed items and anchors.
abbrev pub graph_of_items : JudgingContext → List Item → List Item → Graph
graph_of_items r items anchor_items = record {
  items = length items;
  IsCertificate = λ v. IsAt items v (IsCertificateWith (λ c. Unit {0}));
  Usable = λ v. IsAt items v (λ x. IsCertificateWith (IsUsable (r.Processes x.octets) r.moment) x);
  Fit = λ v. IsAt items v (λ x. IsCertificateWith (IsFitIssuer (r.Processes x.octets) r.moment) x);
  self_issued = λ v. slice_index_or (map (λ x. self_issued_of x.class) items) v false;
  limit = λ v. slice_index_or (map (λ x. limit_of x.class) items) v No;
  Edge = λ v w. IsAt items v (λ x. IsAt items w (λ y. IsLink r items x y));
  AnchorEdge = λ v a. IsAt items v (λ x. IsAt anchor_items a (λ y. IsAnchorLink r items x y));
}
