-- Equal items, brought together by their places, and lists that link them.
use Rattle.std.specs.Prelude.{◌≡◌, ◌↔◌, ◌+◌, ◌<◌, ◌≤◌, ℕ, Bool, List, [], length, map, Contains, slice_index_or}
use Rattle.std.specs.Borrow.{Bor}
use Rattle.std.specs.List.Sorted.{IsStrictlyIncreasing}
use Rattle.cert_graph.specs.Entries.{IsAt}
use Rattle.cert_graph.specs.declared.places.Place.{Place}
use Rattle.cert_graph.specs.Links.{AgreeOnId}
use Rattle.cert_judge.specs.declared.judged.JudgedList.{JudgedList}
use Rattle.cert_judge.specs.declared.judged.JudgedItem.{JudgedItem}
use Rattle.cert_judge.specs.declared.judged.JudgedItem.TheVariants.{Certificate as certificate_judged, List as list_judged, Other as other_judged}
use Rattle.cert_judge.specs.Standing.{octets_in, WithCertificate, WithList, IsIssuedAt}

-- lists of equal octets and serial numbers, both in force or both not
pub record IsSameList (l m : JudgedList) : Type 0 where
  pub octets : l.octets.now ≡ m.octets.now
  pub in_force : l.in_force ≡ m.in_force
  pub serials : map (λ s. s.now) l.serials.items ≡ map (λ s. s.now) m.serials.items

-- alike to whoever links items of one name
abbrev pub AreAlike : JudgedItem → JudgedItem → Type 0
AreAlike (certificate_judged c) j = WithCertificate (λ d. (c.octets.now ≡ d.octets.now) × (c.serial.now ≡ d.serial.now)) j
AreAlike (list_judged l) j = WithList (IsSameList l) j
AreAlike other_judged (certificate_judged d) = ⊥
AreAlike other_judged (list_judged m) = ⊥
AreAlike other_judged other_judged = Unit {0}

-- the items at two places are alike
abbrev pub AreAlikeAt : List JudgedItem → ℕ → ℕ → Type 0
AreAlikeAt js u v = IsAt js u (λ i. IsAt js v (λ j. AreAlike i j))

-- one of some lists, by its number, has a place
abbrev pub IsIn : List (List ℕ) → ℕ → ℕ → Type 0
IsIn lists k v = IsAt lists k (λ l. Contains l v)

-- Places of issued items, brought together: each list has its first place, and only places of items
-- that are alike that one.
pub record AreCopies (js : List JudgedItem) (issued firsts : List ℕ) (lists : List (List ℕ)) : Type 0 where
  pub count : length lists ≡ length firsts
  pub ascend : (d : ℕ) → d < length lists → IsStrictlyIncreasing (slice_index_or lists d [])
  pub within : (d v : ℕ) → IsIn lists d v → Contains issued v
  pub alike : (d v : ℕ) → IsIn lists d v → AreAlikeAt js (slice_index_or firsts d 0) v
  pub first : (d : ℕ) → d < length lists → IsIn lists d (slice_index_or firsts d 0)
  pub complete : (v : ℕ) → Contains issued v → (d : ℕ) × IsIn lists d v

-- the octets of the items at some places
abbrev pub octets_at : List JudgedItem → List ℕ → List (List ℕ)
octets_at js places = map (λ v. octets_in (slice_index_or js v other_judged)) places

-- the places of some numbers
abbrev pub places_at : List ℕ → List ℕ → List ℕ
places_at firsts numbers = map (λ d. slice_index_or firsts d 0) numbers

-- For each key, the numbers of the places whose certificates it vouches for and which the lists at
-- these places leave valid.
pub record AreIssuedRows (V : List ℕ → List ℕ → Type 0) (demand : Bool) (js : List JudgedItem) (firsts : List ℕ) (keys : List (Bor (List ℕ))) (rows : List (List ℕ)) : Type 0 where
  pub count : length rows ≡ length keys
  pub each : (k d : ℕ) (key : Bor (List ℕ)) → k < length keys → IsIn rows k d ↔ ((d < length firsts) × IsIssuedAt V demand js firsts (slice_index_or keys k key).now (slice_index_or firsts d 0))

-- a key of a row holds the second place, and the row has the number of a list with the first
abbrev pub IsSided : List (List ℕ) → List (List ℕ) → List (List ℕ) → ℕ → ℕ → Type 0
IsSided rows copies holders v p = (k : ℕ) × (d : ℕ) × IsIn rows k d × IsIn copies d v × IsIn holders k p

-- links of a relation of places, to issuers and to anchors
abbrev pub IsLinkBy : (ℕ → ℕ → Type 0) → List Place → ℕ → ℕ → ℕ → Type 0
IsLinkBy R all n v w = R v (n + w) × (w < n) × AgreeOnId all v (n + w)

abbrev pub IsAnchorBy : (ℕ → ℕ → Type 0) → ℕ → ℕ → ℕ → ℕ → Type 0
IsAnchorBy R n m v a = R v (n + n + a) × (a < m)

-- the lists of the one kind ascend and have places of n items, those of the other ascend and have
-- places after these
pub record AreLinkable (n : ℕ) (copies holders : List (List ℕ)) : Type 0 where
  pub copies_ascend : (d : ℕ) → d < length copies → IsStrictlyIncreasing (slice_index_or copies d [])
  pub copies_within : (d v : ℕ) → IsIn copies d v → v < n
  pub holders_ascend : (k : ℕ) → k < length holders → IsStrictlyIncreasing (slice_index_or holders k [])
  pub holders_behind : (k p : ℕ) → IsIn holders k p → n ≤ p
