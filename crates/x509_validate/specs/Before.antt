-- Identifiers that stood before, in a set (to read contracts with).
use Rattle.std.specs.Prelude.{◌≡◌, ℕ, List, [], ◌∷◌, ◌++◌}
use Rattle.std.specs.Borrow.{Bor}
use Rattle.std.specs.BTreeSet as ordered
use Rattle.std.specs.BTreeSet.{BTreeSet}
use Rattle.std.specs.Ordering.{on, nat_cmp}
use Rattle.std.specs.Cmp.Lexicographic.{slice_cmp}
use Rattle.x509_ext_policies.specs.Reading.{has}
use Rattle.x509_validate.specs.Messages.{Message}
use Rattle.x509_validate.specs.Repeats.{repeat_messages}

-- the set has the octets of these identifiers
abbrev pub IsHeld : List (List ℕ) → BTreeSet (Bor (List ℕ)) → Type 0
IsHeld kept seen = (s : Bor (List ℕ)) → ordered.contains (on (λ (b : Bor (List ℕ)). b.now) (slice_cmp nat_cmp)) seen s ≡ has s.now kept

-- what was said, and what will be said of the rest, is all; the set holds those that stood before
pub record Left (text : List ℕ) (whole : List Message) (said : List Message) (seen : BTreeSet (Bor (List ℕ))) (rest : List (List ℕ)) : Type 0 where
  pub kept : List (List ℕ)
  pub holds : IsHeld kept seen
  pub sum : said ++ repeat_messages text kept rest ≡ whole
