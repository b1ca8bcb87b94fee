-- When a path exists, by what the report says. This page is to be believed.
use Rattle.std.specs.Prelude.{ℕ, ◌^◌, ◌<◌, List, All, Contains, length}
use Rattle.cert_graph.specs.Graph.{Graph, IsValidPath}
use Rattle.cert_graph.specs.declared.reach.Reach.{Reach}
use Rattle.cert_graph.specs.declared.reach.Reach.TheVariants.{Any}
use Rattle.cert_judge.specs.Revoking.{Item, JudgingContext}
use Rattle.cert_judge.specs.ItemGraph.{graph_of_items}
use Rattle.cert_model.specs.Fields.{Extension}
use Rattle.certpath_why.specs.Bounds.{IsBound}

-- certificates as if none had a path length
abbrev pub without_lengths : Graph → Graph
without_lengths g = record g { limit = λ v. Any }

-- a path that is valid but for path lengths (RFC 5280, 6.1, without 6.1.4, l and m)
abbrev pub IsUncountedPath : JudgingContext → List Item → List Item → ℕ → List ℕ → ℕ → Type 0
IsUncountedPath r items anchors target ps anchor = IsValidPath (without_lengths (graph_of_items r items anchors)) target ps anchor

-- and at none of its certificates a path length prevents a path
abbrev pub IsFreePath : JudgingContext → List Item → List Item → ℕ → (ℕ → Reach) → List ℕ → ℕ → Type 0
IsFreePath r items anchors target reach ps anchor = IsUncountedPath r items anchors target ps anchor × All (λ v. IsBound r items target reach v → ⊥) ps

-- values that fit into memory
abbrev pub AreShort : List Extension → Type 0
AreShort es = (e : Extension) → Contains es e → length e.value < 2 ^ 64
