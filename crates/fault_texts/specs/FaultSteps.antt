-- What the functions that write the lines of items that are other append, over items as they are read.
use Rattle.std.specs.Prelude.{◌≡◌, ℕ, ◌+◌, List, ◌∷◌, ◌++◌, map, Some}
use Rattle.std.specs.List.{slice_get}
use Rattle.cert_judge.specs.Items.{item_of}
use Rattle.cert_judge.specs.Revoking.{Item}
use Rattle.cert_judge.specs.declared.items.ReadItem.{ReadItem}
use Rattle.fault_texts.specs.FaultLines.{IsTargetLine, AreAnchorLines, most_lines}

-- the line of an item that is the target
abbrev pub AppendsOwn : Item → ℕ → List ℕ → List ℕ → Type 0
AppendsOwn x target old new = (line : List ℕ) × (new ≡ old ++ line) × IsTargetLine (Some x) target line

-- the line of the target
abbrev pub AppendsTarget : List ReadItem → ℕ → List ℕ → List ℕ → Type 0
AppendsTarget items target old new = (line : List ℕ) × (new ≡ old ++ line) × IsTargetLine (slice_get (map item_of items) target) target line

-- the line of anchor k, with `left` more to come at most; whatever lines follow, of `less` more at most, begin after it
abbrev pub AppendsAnchor : ℕ → ℕ → ℕ → Item → List ℕ → List ℕ → Type 0
AppendsAnchor k left less x old new =
    (line : List ℕ) × (new ≡ old ++ line) × ((xs : List Item) (rest : List ℕ) → AreAnchorLines (k + 1) less xs rest → AreAnchorLines k left (x ∷ xs) (line ++ rest))

-- the lines of all anchors
abbrev pub AppendsAnchors : List ReadItem → List ℕ → List ℕ → Type 0
AppendsAnchors anchors old new = (lines : List ℕ) × (new ≡ old ++ lines) × AreAnchorLines 0 most_lines (map item_of anchors) lines
