-- How high a row rises over the members of a group, step by step.
use Rattle.std.specs.Prelude.{◌≡◌, ℕ, ◌-◌, ◌≤◌, ◌<◌, ◌⊎◌, List, [], ◌∷◌, ◌++◌, length, All, Contains, slice_index_or}
use Rattle.cert_graph.specs.declared.reach.Reach.{Reach}
use Rattle.cert_graph.specs.declared.nodes.Group.{Group}
use Rattle.cert_graph.specs.declared.stairs.Stair.{Stair}
use Rattle.cert_graph.specs.declared.stairs.Flight.{Flight}
use Rattle.cert_graph.specs.Reach.{Takes}
use Rattle.cert_graph.specs.Graph.{Graph}
use Rattle.cert_graph.specs.Adequate.{row_of}
use Rattle.cert_graph.specs.Entries.{IsAt}
use Rattle.cert_graph.specs.Least.{IsOpen}

-- a member of a list that is open in a row at a count
abbrev pub OpenIn : Graph → List Reach → List ℕ → ℕ → ℕ → Type 0
OpenIn g row members count w = Contains members w × IsOpen g row count w

-- Open members, ascending, of which one is at or before each open member and takes the same count.
-- Each takes what those before it take.
pub record AreStairs (g : Graph) (row : List Reach) (members : List ℕ) (stairs : List Stair) : Type 0 where
  pub ascend : (j k : ℕ) (d : Stair) → j < k → k < length stairs → (slice_index_or stairs j d).position < (slice_index_or stairs k d).position
  pub opened : (k count : ℕ) (d : Stair) → k < length stairs → Takes (slice_index_or stairs k d).reach count → OpenIn g row members count (slice_index_or stairs k d).position
  pub covers : (w count : ℕ) → OpenIn g row members count w → (k : ℕ) × IsAt stairs k (λ s. (s.position ≤ w) × Takes s.reach count)
  pub rise : (j k count : ℕ) (d : Stair) → j < k → k < length stairs → Takes (slice_index_or stairs j d).reach count → Takes (slice_index_or stairs k d).reach count

-- Flights that begin one above the other. The last that begins at or before a row has the row's
-- stairs.
pub record AreFlights (g : Graph) (rows : List (List Reach)) (members : List ℕ) (flights : List Flight) : Type 0 where
  pub ascend : (i j : ℕ) (d : Flight) → i < j → j < length flights → (slice_index_or flights i d).row < (slice_index_or flights j d).row
  pub covers : (k : ℕ) → k < length rows → (i : ℕ) × IsAt flights i (λ f. (f.row ≤ k) × AreStairs g (row_of rows k) members f.stairs.items) × ((j : ℕ) (d : Flight) → i < j → j < length flights → k < (slice_index_or flights j d).row)

-- flights over some rows, each of which begins in one of them
abbrev pub AreFlightsSoFar : Graph → List (List Reach) → List ℕ → List Flight → Type 0
AreFlightsSoFar g rows members flights = AreFlights g rows members flights × All (λ f. f.row < length rows) flights

-- the flights of each group have to do with its members
abbrev pub OfEachGroup : (List ℕ → List Flight → Type 0) → List Group → List (List Flight) → Type 0
OfEachGroup P groups flights = (length flights ≡ length groups)
    × ((k : ℕ) (group : Group) (own : List Flight) → k < length groups → P (slice_index_or groups k group).members.items (slice_index_or flights k own))

-- a group's flights go on to one row more, in which the last begins
abbrev pub HasFlightTo : Graph → List (List Reach) → List Reach → List ℕ → List Flight → Type 0
HasFlightTo g rows row members flights = AreFlightsSoFar g (rows ++ row ∷ []) members flights × (0 < length flights)
    × ((d : Flight) → (slice_index_or flights (length flights - 1) d).row ≡ length rows)

-- a group's flights go on to some rows, or have begun one in one row more
abbrev pub MayClimb : Graph → List (List Reach) → List Reach → List ℕ → List Flight → Type 0
MayClimb g rows row members flights = AreFlightsSoFar g rows members flights ⊎ HasFlightTo g rows row members flights

-- flights of which those of some groups, by their places, go on to one row more
abbrev pub AreClimbing : Graph → List (List Reach) → List Reach → List ℕ → List Group → List (List Flight) → Type 0
AreClimbing g rows row done groups flights = (length flights ≡ length groups)
    × ((k : ℕ) (group : Group) (own : List Flight) → k < length groups → MayClimb g rows row (slice_index_or groups k group).members.items (slice_index_or flights k own)
    × (Contains done k → AreFlightsSoFar g (rows ++ row ∷ []) (slice_index_or groups k group).members.items (slice_index_or flights k own)))
