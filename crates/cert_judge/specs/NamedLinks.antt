-- Links between places under a name and key.
use Rattle.std.specs.Prelude.{◌≡◌, ◌+◌, ◌++◌, ◌<◌, ℕ, Bool, true, List, length, map}
use Rattle.cert_graph.specs.Entries.{IsAt}
use Rattle.cert_graph.specs.declared.places.Place.{Place}
use Rattle.cert_graph.specs.declared.places.Part.TheVariants.{Name, Key}
use Rattle.cert_graph.specs.Places.{Shows}
use Rattle.cert_graph.specs.Links.{AgreeOnId}
use Rattle.cert_judge.specs.declared.judged.JudgedItem.{JudgedItem}
use Rattle.cert_judge.specs.JudgedItems.{as_issued, as_member, as_anchor}
use Rattle.cert_judge.specs.Standing.{WithCertificate, IsUsedAt, IsUsedAgainstAt}

-- an item was issued under a name
abbrev pub IsUnder : List JudgedItem → List Place → List ℕ → ℕ → Type 0
IsUnder js all name p = (p < length js) × Shows Name all p name

-- A certificate of this serial number is left valid under a name and key.
pub record StandsUnder (V : List ℕ → List ℕ → Type 0) (demand : Bool) (js : List JudgedItem) (all : List Place) (name key serial : List ℕ) : Type 0 where
  pub kept : (p : ℕ) → IsUnder js all name p → IsUsedAgainstAt V js key serial p → ⊥
  pub listed : demand ≡ true → (p : ℕ) × IsUnder js all name p × IsUsedAt V js key p

-- the item at a place is a certificate that was issued under a name and key
abbrev pub IsIssuedFrom : (List ℕ → List ℕ → Type 0) → Bool → List JudgedItem → List Place → List ℕ → List ℕ → ℕ → Type 0
IsIssuedFrom V demand js all name key v = IsUnder js all name v × IsAt js v (WithCertificate (λ c. V key c.octets.now × StandsUnder V demand js all name key c.serial.now))

-- a place shows a name and key
abbrev pub Holds : List Place → List ℕ → List ℕ → ℕ → Type 0
Holds all name key p = Shows Name all p name × Shows Key all p key

abbrev pub IsNamedLink : (List ℕ → List ℕ → Type 0) → Bool → List JudgedItem → List Place → List ℕ → ℕ → ℕ → Type 0
IsNamedLink V demand js all name v w =
    (key : List ℕ) × IsIssuedFrom V demand js all name key v × Holds all name key (length js + w) × (w < length js) × AgreeOnId all v (length js + w)

abbrev pub IsNamedAnchor : (List ℕ → List ℕ → Type 0) → Bool → List JudgedItem → List Place → ℕ → List ℕ → ℕ → ℕ → Type 0
IsNamedAnchor V demand js all m name v a =
    (key : List ℕ) × IsIssuedFrom V demand js all name key v × Holds all name key (length js + length js + a) × (a < m)

-- the places of items as what was issued, then as issuers, and then of anchors
abbrev pub places_of : List JudgedItem → List JudgedItem → List Place
places_of js hs = (map as_issued js ++ map as_member js) ++ map as_anchor hs

abbrev pub IsSomeLink : (List ℕ → List ℕ → Type 0) → Bool → List JudgedItem → List JudgedItem → ℕ → ℕ → Type 0
IsSomeLink V demand js hs v w = (name : List ℕ) × IsNamedLink V demand js (places_of js hs) name v w

abbrev pub IsSomeAnchor : (List ℕ → List ℕ → Type 0) → Bool → List JudgedItem → List JudgedItem → ℕ → ℕ → Type 0
IsSomeAnchor V demand js hs v a = (name : List ℕ) × IsNamedAnchor V demand js (places_of js hs) (length hs) name v a
