-- What the laws over graphs say.
use Rattle.std.specs.Prelude.{◌≡◌, ℕ, List, ◌∷◌, ◌++◌, ◌↔◌}
use Rattle.cert_graph.specs.Reach.{Takes}
use Rattle.cert_graph.specs.Graph.{Graph}

-- whatever is usable is a certificate
abbrev pub UsableIsCertificate : Graph → Type 0
UsableIsCertificate g = (v : ℕ) → g.Usable v → g.IsCertificate v

-- every fit certificate is usable
abbrev pub FitIsUsable : Graph → Type 0
FitIsUsable g = (v : ℕ) → g.Fit v → g.Usable v

-- no position is twice in a list
abbrev pub NamesNoneTwice : List ℕ → Type 0
NamesNoneTwice ps = (front between back : List ℕ) (v : ℕ) → ps ≡ front ++ v ∷ (between ++ v ∷ back) → ⊥

-- Positions of one graph go to positions of another that may do all that they may. Of links to
-- certificates, those to fit ones alone matter.
pub record Carries (f : ℕ → ℕ) (g h : Graph) : Type 0 where
  pub usable : (v : ℕ) → g.Usable v → h.Usable (f v)
  pub fit : (v : ℕ) → g.Fit v → h.Fit (f v)
  pub self_issued : (v : ℕ) → g.Fit v → h.self_issued (f v) ≡ g.self_issued v
  pub limit : (v c : ℕ) → g.Fit v → Takes (g.limit v) c → Takes (h.limit (f v)) c
  pub edge : (v w : ℕ) → g.Fit w → g.Edge v w → h.Edge (f v) (f w)
  pub anchored : (v a : ℕ) → g.AnchorEdge v a → h.AnchorEdge (f v) a

-- Two graphs agree on each position, and have equal links to fit certificates and to anchors.
pub record Agrees (g h : Graph) : Type 0 where
  pub items : g.items ≡ h.items
  pub certificate : (v : ℕ) → g.IsCertificate v ↔ h.IsCertificate v
  pub usable : (v : ℕ) → g.Usable v ↔ h.Usable v
  pub fit : (v : ℕ) → g.Fit v ↔ h.Fit v
  pub self_issued : (v : ℕ) → h.self_issued v ≡ g.self_issued v
  pub limit : (v : ℕ) → g.Fit v → h.limit v ≡ g.limit v
  pub edge : (v w : ℕ) → g.Fit w → g.Edge v w ↔ h.Edge v w
  pub anchored : (v a : ℕ) → g.AnchorEdge v a ↔ h.AnchorEdge v a
