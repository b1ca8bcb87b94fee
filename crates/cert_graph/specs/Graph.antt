-- Certificates with the links between them, the paths that are valid there, and their order.
use Rattle.std.specs.Prelude.{◌≡◌, ◌≢◌, ℕ, ◌+◌, ◌≤◌, ◌<◌, Bool, not, List, [], ◌∷◌, ◌++◌, length, count_by, ◌⊎◌, All}
use Rattle.cert_graph.specs.declared.reach.Reach.{Reach}
use Rattle.cert_graph.specs.Reach.{Takes}

-- What is judged of the items of a bundle, by their positions from 0, and of the anchors by theirs.
pub record Graph : Type 1 where
  pub items : ℕ
  pub IsCertificate : ℕ → Type 0
  -- it may be in a path at the moment (RFC 5280, 6.1.3)
  pub Usable : ℕ → Type 0
  -- it may issue certificates at the moment (RFC 5280, 6.1.4)
  pub Fit : ℕ → Type 0
  -- its subject is its issuer (RFC 5280, 6.1)
  pub self_issued : ℕ → Bool
  -- its path length constraint, or Any; of no matter if it is not fit (RFC 5280, 4.2.1.9)
  pub limit : ℕ → Reach
  -- the first was issued under the second's name and key
  pub Edge : ℕ → ℕ → Type 0
  -- it was issued under the anchor's name and key
  pub AnchorEdge : ℕ → ℕ → Type 0

-- how many of a list of certificates are not self-issued
abbrev pub counted : Graph → List ℕ → ℕ
counted g ps = count_by (λ p. not (g.self_issued p)) ps

-- each two neighbours of a list are related
abbrev pub AreNeighbours : (ℕ → ℕ → Type 0) → List ℕ → Type 0
AreNeighbours R ps = (front back : List ℕ) (v w : ℕ) → ps ≡ front ++ v ∷ w ∷ back → R v w

-- the last of a list has a property
abbrev pub EndsIn : (ℕ → Type 0) → List ℕ → Type 0
EndsIn P ps = (front : List ℕ) (v : ℕ) → ps ≡ front ++ v ∷ [] → P v

-- each limit takes a count and those before it that aren't self-issued (RFC 5280, 6.1.4, l and m)
abbrev pub KeepsLimits : Graph → ℕ → List ℕ → Type 0
KeepsLimits g c ps = (front back : List ℕ) (v : ℕ) → ps ≡ front ++ v ∷ back → Takes (g.limit v) (c + counted g front)

-- A valid path, its positions, and the anchor at its end (RFC 5280, 6.1). The target isn't counted.
pub record IsValidPath (g : Graph) (target : ℕ) (ps : List ℕ) (anchor : ℕ) : Type 0 where
  pub issuers : List ℕ
  pub starts : ps ≡ target ∷ issuers
  pub usable : All g.Usable ps
  pub fit : All g.Fit issuers
  pub linked : AreNeighbours g.Edge ps
  pub anchored : EndsIn (λ v. g.AnchorEdge v anchor) ps
  pub limits : KeepsLimits g 0 issuers

-- A list of issuers that leads to an anchor, the first being met at a count.
pub record IsChain (g : Graph) (c : ℕ) (qs : List ℕ) (anchor : ℕ) : Type 0 where
  pub some : qs ≢ []
  pub fit : All g.Fit qs
  pub linked : AreNeighbours g.Edge qs
  pub anchored : EndsIn (λ v. g.AnchorEdge v anchor) qs
  pub limits : KeepsLimits g c qs

-- an issuer, met at a count, leads to an anchor over at most a number of certificates, itself one
abbrev pub IsReached : Graph → ℕ → ℕ → ℕ → Type 0
IsReached g number v c =
    (rest : List ℕ) × (a : ℕ) × (length (v ∷ rest) ≤ number) × IsChain g c (v ∷ rest) a

-- lists of positions in the order of the first place where they differ
abbrev pub IsBefore : List ℕ → List ℕ → Type 0
IsBefore ps qs =
    (front : List ℕ) × (p : ℕ) × (q : ℕ) × (prest : List ℕ) × (qrest : List ℕ)
    × (ps ≡ front ++ p ∷ prest) × (qs ≡ front ++ q ∷ qrest) × (p < q)

-- a path comes before another: fewer certificates, then smaller positions, then the smaller anchor
abbrev pub ComesBefore : List ℕ → ℕ → List ℕ → ℕ → Type 0
ComesBefore ps a qs b =
    (length ps < length qs) ⊎ ((length ps ≡ length qs) × IsBefore ps qs) ⊎ ((ps ≡ qs) × (a < b))

-- The first of the valid paths.
pub record IsFirstPath (g : Graph) (target : ℕ) (ps : List ℕ) (anchor : ℕ) : Type 0 where
  pub valid : IsValidPath g target ps anchor
  pub first : (qs : List ℕ) (b : ℕ) → IsValidPath g target qs b → ComesBefore qs b ps anchor → ⊥

abbrev pub HasNoPath : Graph → ℕ → Type 0
HasNoPath g target = (ps : List ℕ) (a : ℕ) → IsValidPath g target ps a → ⊥
