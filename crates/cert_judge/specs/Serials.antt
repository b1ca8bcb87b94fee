-- Serial numbers of lists as sets, and those that are asked about.
use Rattle.std.specs.Borrow.{Bor}
use Rattle.std.specs.Prelude.{◌≡◌, ◌↔◌, ◌<◌, ℕ, IsTrue, List, length, Any, Contains, Some}
use Rattle.std.specs.Ordering.{on, nat_cmp}
use Rattle.std.specs.Cmp.Lexicographic.{slice_cmp}
use Rattle.std.specs.BTreeMap as mapped
use Rattle.std.specs.BTreeMap.{BTreeMap}
use Rattle.std.specs.BTreeSet as sorted
use Rattle.std.specs.BTreeSet.{BTreeSet}
use Rattle.cert_graph.specs.Entries.{IsAt}
use Rattle.cert_judge.specs.declared.judged.JudgedCertificate.{JudgedCertificate}
use Rattle.cert_judge.specs.declared.judged.JudgedItem.{JudgedItem}
use Rattle.cert_judge.specs.declared.judged.JudgedItem.TheVariants.{Certificate as certificate_judged, List as list_judged, Other as other_judged}
use Rattle.cert_judge.specs.Standing.{WithList}

-- what a certificate has; of what is none nothing is said
abbrev pub IfCertificate : (JudgedCertificate → Type 0) → JudgedItem → Type 0
IfCertificate P (certificate_judged j) = P j
IfCertificate P (list_judged j) = Unit {0}
IfCertificate P other_judged = Unit {0}

-- one of some serial numbers is this one
abbrev pub HasEqual : List ℕ → List (Bor (List ℕ)) → Type 0
HasEqual serial serials = Any (λ t. t.now ≡ serial) serials

-- a set has exactly some serial numbers
abbrev pub IsSetOf : List (Bor (List ℕ)) → BTreeSet (Bor (List ℕ)) → Type 0
IsSetOf serials set = (s : Bor (List ℕ)) → IsTrue (sorted.contains (on (λ (b : Bor (List ℕ)). b.now) (slice_cmp nat_cmp)) set s) ↔ HasEqual s.now serials

-- sets of the serial numbers of lists, by the lists' places
abbrev pub AreSetsAt : List JudgedItem → BTreeMap ℕ (BTreeSet (Bor (List ℕ))) → Type 0
AreSetsAt js sets = (p : ℕ) (set : BTreeSet (Bor (List ℕ))) → mapped.get nat_cmp sets p ≡ Some set → IsAt js p (WithList (λ l. IsSetOf l.serials.items set))

-- the serial number of each certificate at some places is asked about
abbrev pub AreAsked : List JudgedItem → List ℕ → List (Bor (List ℕ)) → Type 0
AreAsked js places asked = (v : ℕ) → Contains places v → v < length js → IsAt js v (IfCertificate (λ c. HasEqual c.serial.now asked))
