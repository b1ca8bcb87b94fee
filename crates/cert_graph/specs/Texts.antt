-- Numbers of texts.
use Rattle.std.specs.Borrow.{Bor}
use Rattle.std.specs.Prelude.{ℕ, List, Option}
use Rattle.std.specs.declared.cmp.Ordering.{Ordering}
use Rattle.std.specs.Ordering.{nat_cmp, ordering_then}
use Rattle.std.specs.Cmp.Lexicographic.{slice_cmp}
use Rattle.std.specs.BTreeMap.{get}
use Rattle.cert_graph.specs.Endings.{tail_of}
use Rattle.cert_graph.specs.declared.texts.TextNumbers.{TextNumbers}

-- texts by their last octets, and by all octets if these are equal
abbrev pub by_tail : ℕ × Bor (List ℕ) → ℕ × Bor (List ℕ) → Ordering
by_tail x y = ordering_then (nat_cmp x.0 y.0) (slice_cmp nat_cmp x.1.now y.1.now)

-- the number of a text, if it has one
abbrev pub number_of : TextNumbers → Bor (List ℕ) → Option ℕ
number_of numbers q = get by_tail numbers.known (tail_of q.now, q)
