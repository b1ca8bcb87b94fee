-- A line of the positions against whose links there is a reason. Contracts of private functions cite it.
use Rattle.std.specs.Prelude.{◌≡◌, ℕ, List, Option}
use Rattle.cert_reasons.specs.declared.links.Unlinked.{Unlinked}
use Rattle.certpath_why.specs.Lines.{link_lines}
use Rattle.certpath_why.specs.Ranges.{AreRanges}
use Rattle.certpath_why.specs.declared.ranges.Range.{Range}

-- a line of exactly the positions with a property, and nothing for none
abbrev pub IsLineOf : List ℕ → Option Unlinked → (ℕ → Type 0) → List ℕ → Type 0
IsLineOf front what P text = (ranges : List Range) × AreRanges P ranges × (text ≡ link_lines front what ranges)
