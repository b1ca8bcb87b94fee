-- Equal octets have one number. Contracts of private functions cite it.
use Rattle.std.specs.Borrow.{Bor}
use Rattle.std.specs.Prelude.{◌≡◌, ◌<◌, ℕ, List, Some, length, slice_index_or}
use Rattle.cert_graph.specs.declared.texts.TextNumbers.{TextNumbers}
use Rattle.cert_graph.specs.Texts.{number_of}
use Rattle.certpath_why.specs.declared.classes.Classes.{Classes}

-- a number is that of these octets
abbrev pub IsNumberOf : List (Bor (List ℕ)) → ℕ → List ℕ → Type 0
IsNumberOf texts n q = (n < length texts) × ((t : Bor (List ℕ)) → (slice_index_or texts n t).now ≡ q)

-- what the map has for some octets is their number
abbrev pub AreKnown : List (Bor (List ℕ)) → TextNumbers → Type 0
AreKnown texts known = (q : Bor (List ℕ)) (n : ℕ) → number_of known q ≡ Some n → IsNumberOf texts n q.now

-- octets that had a number have it still
abbrev pub AreKept : List (Bor (List ℕ)) → List (Bor (List ℕ)) → Type 0
AreKept old new = (n : ℕ) (q : List ℕ) → IsNumberOf old n q → IsNumberOf new n q

-- the first numbers are those of the first octets
pub record AreNumbersOf (all texts : List (Bor (List ℕ))) (k : ℕ) (numbers : List ℕ) : Type 0 where
  pub count : length numbers ≡ k
  pub each : (i : ℕ) (o : Bor (List ℕ)) → i < k → IsNumberOf texts (slice_index_or numbers i 0) (slice_index_or all i o).now

-- the octets at a position by another number for each
abbrev pub number_at : Classes → List ℕ → ℕ → ℕ
number_at classes others p = slice_index_or others (slice_index_or classes.numbers.items p 0) 0

abbrev pub AreClasses : List (Bor (List ℕ)) → Classes → Type 0
AreClasses all c = AreNumbersOf all c.texts.items (length all) c.numbers.items
