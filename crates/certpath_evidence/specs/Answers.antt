-- What `read_evidence` returns, in the words of `Evidence`.
use Rattle.std.specs.Prelude.{◌≡◌, ◌≢◌, ◌⊎◌, ℕ, ◌+◌, List, [], ◌∷◌, ◌++◌, length, All, Result, Ok, Err}
use Rattle.cert_graph.specs.declared.inventory.Inventory.{Inventory}
use Rattle.certpath_evidence.specs.declared.reading.EvidenceError.{EvidenceError}
use Rattle.certpath_evidence.specs.declared.reading.EvidenceError.TheVariants.{BadLine, OutOfMemory}
use Rattle.certpath_evidence.specs.Evidence.{Told, told_by, line_feed, lines_of, ended, evidence, Fits}

-- no LF is among the octets
abbrev pub HasNoLineFeed : List ℕ → Type 0
HasNoLineFeed octets = All (λ octet. octet ≢ line_feed) octets

-- no evidence begins with some lines and a further one
abbrev pub NoneGoesOn : List (List ℕ) → List ℕ → Type 0
NoneGoesOn before line = (told : Told) (more : List (List ℕ)) → Fits told → lines_of told ≡ before ++ line ∷ more → ⊥

-- some lines are none, or those of an evidence
abbrev pub MayStand : List (List ℕ) → Type 0
MayStand lines = (lines ≡ []) ⊎ ((told : Told) × Fits told × (lines_of told ≡ lines))

-- The first bad line of a text, counted from 1: those before it are an evidence, with it they begin none; or it has no LF at its end, or is missing.
pub record HasFirstBad (text : List ℕ) (number : ℕ) : Type 0 where
  pub before : List (List ℕ)
  pub rest : List ℕ
  pub text_is : text ≡ ended before ++ rest
  pub well : MayStand before
  pub bad : (line after : List ℕ) → rest ≡ line ++ line_feed ∷ after → HasNoLineFeed line → NoneGoesOn before line
  pub unended : rest ≡ [] → before ≡ []
  pub counted : number ≡ length before + 1

-- The inventory that a text was written of.
pub record IsEvidenceOf (text : List ℕ) (inventory : Inventory) : Type 0 where
  pub fits : Fits (told_by inventory)
  pub text_is : text ≡ evidence (told_by inventory)

abbrev pub AnswersEvidence : List ℕ → Result Inventory EvidenceError → Type 0
AnswersEvidence text (Ok inventory) = IsEvidenceOf text inventory
AnswersEvidence text (Err (BadLine number)) = HasFirstBad text number
AnswersEvidence text (Err OutOfMemory) = Unit {0}

-- a line is refused by its number, since something holds, or memory ran out
abbrev pub RefusesLine : Type 0 → ℕ → EvidenceError → Type 0
RefusesLine P number (BadLine n) = (n ≡ number) × P
RefusesLine P number OutOfMemory = Unit {0}

-- what is read says what was written
abbrev pub IsReadBack : Told → Result Inventory EvidenceError → Type 0
IsReadBack told (Ok inventory) = told_by inventory ≡ told
IsReadBack told (Err (BadLine number)) = ⊥
IsReadBack told (Err OutOfMemory) = Unit {0}
