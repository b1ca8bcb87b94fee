-- Path length constraints of items by the grammar of basicConstraints (RFC 5280, 4.2.1.9), and
-- limits by these. This page is to be believed.
use Rattle.std.specs.Prelude.{◌≡◌, ℕ, List, Option}
use Rattle.cert_graph.specs.declared.reach.Reach.{Reach}
use Rattle.cert_graph.specs.Entries.{IsAt}
use Rattle.cert_graph.specs.Graph.{Graph}
use Rattle.cert_graph.specs.Reach.{reach_of}
use Rattle.cert_model.specs.Extended.{SomeUnder, basic_constraints}
use Rattle.cert_judge.specs.ItemGraph.{IsCertificateWith}
use Rattle.cert_judge.specs.Judging.{HasPathLen, IsFitIssuer}
use Rattle.cert_judge.specs.Revoking.{Item, JudgingContext}

-- an item is a fit issuer with this path length constraint, or with none if this is `None`
abbrev pub IsFitWith : JudgingContext → Option ℕ → Item → Type 0
IsFitWith r n x = IsCertificateWith (λ c. IsFitIssuer (r.Processes x.octets) r.moment c × SomeUnder basic_constraints (HasPathLen n) c.extensions) x

-- the item at a position is so
abbrev pub HasPathLenAt : JudgingContext → List Item → ℕ → Option ℕ → Type 0
HasPathLenAt r items v n = IsAt items v (IsFitWith r n)

-- the limit at each fit issuer is what its path length constraint lets through; at other positions
-- limits may be any
abbrev pub AreLimits : JudgingContext → List Item → (ℕ → Reach) → Type 0
AreLimits r items limit = (v : ℕ) (n : Option ℕ) → HasPathLenAt r items v n → limit v ≡ reach_of n

-- a graph with other limits in place of its own
abbrev pub with_limits : (ℕ → Reach) → Graph → Graph
with_limits limit g = record g { limit = limit }
