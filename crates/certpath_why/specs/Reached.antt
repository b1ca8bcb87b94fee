-- Which certificates the report speaks of. This page is to be believed.
use Rattle.std.specs.Prelude.{◌≡◌, ◌≢◌, ◌↔◌, ℕ, zero, suc, List, Contains}
use Rattle.std.specs.List.Sorted.{IsStrictlyIncreasing}
use Rattle.cert_graph.specs.Entries.{IsAt}
use Rattle.cert_model.specs.Octets.{name_octets}
use Rattle.cert_judge.specs.Revoking.{Item}
use Rattle.cert_judge.specs.ItemGraph.{IsCertificateWith}

-- the item at a position is a certificate
abbrev pub IsCertificateAt : List Item → ℕ → Type 0
IsCertificateAt items v = IsAt items v (IsCertificateWith (λ c. Unit {0}))

-- the item at a position is a certificate with this subject
abbrev pub HasSubject : List Item → List ℕ → ℕ → Type 0
HasSubject items name w = IsAt items w (IsCertificateWith (λ d. name_octets d.subject ≡ name))

-- the issuer of the one certificate is the subject of the other
abbrev pub IsIssuerByName : List Item → ℕ → ℕ → Type 0
IsIssuerByName items v w = IsAt items v (IsCertificateWith (λ c. HasSubject items (name_octets c.issuer) w))

-- from the one certificate the other is reached in so many steps, each to a certificate of the issuer's name
abbrev pub IsReachedIn : List Item → ℕ → ℕ → ℕ → Type 0
IsReachedIn items zero v w = IsCertificateAt items v × (v ≡ w)
IsReachedIn items (suc k) v w = (u : ℕ) × IsIssuerByName items v u × IsReachedIn items k u w

abbrev pub IsReached : List Item → ℕ → ℕ → Type 0
IsReached items v w = (k : ℕ) × IsReachedIn items k v w

-- Exactly the positions with a property, in ascending order.
pub record ArePositions (P : ℕ → Type 0) (ps : List ℕ) : Type 0 where
  pub ascends : IsStrictlyIncreasing ps
  pub exact : (p : ℕ) → Contains ps p ↔ P p

-- a certificate other than the target is reached from it
abbrev pub IsFurther : List Item → ℕ → ℕ → Type 0
IsFurther items target w = IsReached items target w × (w ≢ target)
