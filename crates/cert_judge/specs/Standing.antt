-- What the code judges of places: which lists are used there, and which certificates they leave
-- valid.
use Rattle.std.specs.Borrow.{Bor}
use Rattle.std.specs.Prelude.{◌≡◌, ℕ, Bool, true, IsTrue, List, [], Any}
use Rattle.std.specs.Ordering.{on, nat_cmp}
use Rattle.std.specs.Cmp.Lexicographic.{slice_cmp}
use Rattle.std.specs.BTreeSet as sorted
use Rattle.std.specs.BTreeSet.{BTreeSet}
use Rattle.cert_graph.specs.Entries.{IsAt}
use Rattle.cert_judge.specs.declared.judged.JudgedCertificate.{JudgedCertificate}
use Rattle.cert_judge.specs.declared.judged.JudgedList.{JudgedList}
use Rattle.cert_judge.specs.declared.judged.JudgedItem.{JudgedItem}
use Rattle.cert_judge.specs.declared.judged.JudgedItem.TheVariants.{Certificate as certificate_judged, List as list_judged, Other as other_judged}

abbrev pub WithCertificate : (JudgedCertificate → Type 0) → JudgedItem → Type 0
WithCertificate P (certificate_judged j) = P j
WithCertificate P (list_judged j) = ⊥
WithCertificate P other_judged = ⊥

abbrev pub WithList : (JudgedList → Type 0) → JudgedItem → Type 0
WithList P (certificate_judged j) = ⊥
WithList P (list_judged j) = P j
WithList P other_judged = ⊥

-- a list in force that a key vouches for
pub record IsUsedBy (V : List ℕ → List ℕ → Type 0) (key : List ℕ) (l : JudgedList) : Type 0 where
  pub in_force : l.in_force ≡ true
  pub vouched : V key l.octets.now

abbrev pub HasSerial : List ℕ → JudgedList → Type 0
HasSerial serial l = Any (λ s. s.now ≡ serial) l.serials.items

abbrev pub IsUsedAt : (List ℕ → List ℕ → Type 0) → List JudgedItem → List ℕ → ℕ → Type 0
IsUsedAt V js key p = IsAt js p (WithList (IsUsedBy V key))

abbrev pub IsUsedAgainstAt : (List ℕ → List ℕ → Type 0) → List JudgedItem → List ℕ → List ℕ → ℕ → Type 0
IsUsedAgainstAt V js key serial p = IsAt js p (WithList (λ l. IsUsedBy V key l × HasSerial serial l))

-- A certificate of this serial number is left valid by the lists at some places.
pub record StandsBy (V : List ℕ → List ℕ → Type 0) (demand : Bool) (js : List JudgedItem) (places key serial : List ℕ) : Type 0 where
  pub kept : Any (IsUsedAgainstAt V js key serial) places → ⊥
  pub listed : demand ≡ true → Any (IsUsedAt V js key) places

-- a key vouches for the certificate at a place, and it is left valid
abbrev pub IsIssuedAt : (List ℕ → List ℕ → Type 0) → Bool → List JudgedItem → List ℕ → List ℕ → ℕ → Type 0
IsIssuedAt V demand js places key v = IsAt js v (WithCertificate (λ c. V key c.octets.now × StandsBy V demand js places key c.serial.now))

-- a key vouches for the certificate at a place, whose serial number is not in a set
abbrev pub IsIssuedBeside : (List ℕ → List ℕ → Type 0) → BTreeSet (Bor (List ℕ)) → List JudgedItem → List ℕ → ℕ → Type 0
IsIssuedBeside V revoked js key v =
    IsAt js v (WithCertificate (λ c. V key c.octets.now × (IsTrue (sorted.contains (on (λ (b : Bor (List ℕ)). b.now) (slice_cmp nat_cmp)) revoked c.serial) → ⊥)))

-- the octets of an item that is judged; of what is neither a certificate nor a list none are kept
abbrev pub octets_in : JudgedItem → List ℕ
octets_in (certificate_judged j) = j.octets.now
octets_in (list_judged j) = j.octets.now
octets_in other_judged = []

-- everything is vouched for, if it was chosen by who vouches for it
abbrev pub anything : List ℕ → List ℕ → Type 0
anything key item = Unit {0}
