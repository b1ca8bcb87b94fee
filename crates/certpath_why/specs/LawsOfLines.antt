-- What the laws of single lines say: names by the grammar, and certificates against which no line
-- speaks. This page is to be believed.
use Rattle.std.specs.Prelude.{◌≡◌, ◌⊎◌, ℕ, List, [], ◌∷◌, false, All}
use Rattle.cert_graph.specs.Entries.{IsAt}
use Rattle.cert_graph.specs.Graph.{AreNeighbours, EndsIn}
use Rattle.cert_graph.specs.declared.reach.Reach.{Reach}
use Rattle.cert_judge.specs.ItemGraph.{IsCertificateWith}
use Rattle.cert_judge.specs.Revoking.{Item, JudgingContext}
use Rattle.x509_names.specs.Fields.{Name}
use Rattle.x509_names.specs.Names as grammar
use Rattle.certpath_why.specs.Bounds.{IsBound}
use Rattle.certpath_why.specs.Why.{AreUnusableLines, AreNoIssuerLines, IsLinkedTo, IsLinkedToAnchor}

-- Octets that are a name to their last one: no octet follows it, and none is left of its content
-- (RFC 5280, 4.1.2.4).
pub record IsWholeName (octets : List ℕ) (name : Name) : Type 0 where
  pub spelled : grammar.X509Name octets name []
  pub whole : name.raw ≡ octets

-- What the caller is asked has an answer: whether a key vouches for an item, and whether an
-- extension is processed.
pub record IsDecided (r : JudgingContext) : Type 0 where
  pub vouched : (key item : List ℕ) → r.Vouches key item ⊎ (r.Vouches key item → ⊥)
  pub processed : (item identifier : List ℕ) → r.Processes item identifier ⊎ (r.Processes item identifier → ⊥)

-- the certificate at a position has no line `not usable`
abbrev pub HasNoUnusableLine : JudgingContext → List Item → ℕ → Type 0
HasNoUnusableLine r items v = IsAt items v (λ x. IsCertificateWith (λ c. AreUnusableLines r v x c []) x)

-- It has no line `no issuer`, or would have none if it weren't the target. Of the target itself no
-- such line is written.
abbrev pub HasNoIssuerLine : List Item → ℕ → Type 0
HasNoIssuerLine items v = IsAt items v (IsCertificateWith (λ c. AreNoIssuerLines false v c []))

-- a line `linked` of it names the one at another position, or the anchor
abbrev pub IsShownLinked : JudgingContext → List Item → ℕ → ℕ → Type 0
IsShownLinked r items v w = IsAt items v (λ x. IsLinkedTo r items x w)

abbrev pub IsShownLinkedToAnchor : JudgingContext → List Item → List Item → ℕ → ℕ → Type 0
IsShownLinkedToAnchor r items anchors v a = IsAt items v (λ x. IsLinkedToAnchor r items anchors x a)

-- A path by the lines of its certificates: the target, its issuers, and the anchor at its end. Of
-- path lengths nothing is said.
pub record IsPathByLines (r : JudgingContext) (items anchors : List Item) (target : ℕ) (ps : List ℕ) (anchor : ℕ) : Type 0 where
  pub issuers : List ℕ
  pub starts : ps ≡ target ∷ issuers
  pub usable : All (HasNoUnusableLine r items) ps
  pub issue : All (HasNoIssuerLine items) issuers
  pub linked : AreNeighbours (IsShownLinked r items) ps
  pub anchored : EndsIn (λ v. IsShownLinkedToAnchor r items anchors v anchor) ps

-- and none of its certificates has the line `leads to an anchor with at most 0 below`
abbrev pub IsFreePathByLines : JudgingContext → List Item → List Item → ℕ → (ℕ → Reach) → List ℕ → ℕ → Type 0
IsFreePathByLines r items anchors target reach ps anchor =
    IsPathByLines r items anchors target ps anchor × All (λ v. IsBound r items target reach v → ⊥) ps
