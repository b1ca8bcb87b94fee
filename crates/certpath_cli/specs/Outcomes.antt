-- What the program hands to the engine's table of statuses.
use Rattle.std.specs.Prelude.{◌≡◌, ◌⊎◌, List, ℕ, Contains, Err, Option, None, Some}
use Rattle.std.specs.Borrow.{Bor}
use Rattle.certpath_engine.specs.declared.bundle_exit.BundleOutcome.{BundleOutcome}
use Rattle.certpath_engine.specs.declared.bundle_exit.BundleOutcome.TheVariants as bundled
use Rattle.certpath_engine.specs.declared.items_exit.FrameOutcome.{FrameOutcome}
use Rattle.certpath_engine.specs.declared.items_exit.FrameOutcome.TheVariants.{Unopened, Framed}
use Rattle.certpath_engine.specs.declared.path_exit.PathFiles.{PathFiles}
use Rattle.certpath_engine.specs.declared.path_exit.PathOutcome.{PathOutcome}
use Rattle.certpath_engine.specs.declared.path_exit.PathOutcome.TheVariants as paths
use Rattle.certpath_engine.specs.declared.path_exit.PathsOutcome.{PathsOutcome}
use Rattle.certpath_engine.specs.declared.path_exit.PathsOutcome.TheVariants as searched
use Rattle.certpath_engine.specs.declared.recheck_exit.RecheckFiles.{RecheckFiles}
use Rattle.certpath_engine.specs.declared.recheck_exit.RecheckOutcome.{RecheckOutcome}
use Rattle.certpath_engine.specs.declared.recheck_exit.RecheckOutcome.TheVariants as rechecked
use Rattle.certpath_engine.specs.PathExits.{Input, word_of}
use Rattle.certpath_engine.specs.declared.items_exit.ItemFiles.{ItemFiles}
use Rattle.certpath_engine.specs.declared.items_exit.QuestionsOutcome.{QuestionsOutcome}
use Rattle.certpath_engine.specs.declared.items_exit.QuestionsOutcome.TheVariants as asked
use Rattle.certpath_engine.specs.ItemsExits.{ItemInput, item_word_of}
use Rattle.certpath_engine.specs.ItemInputs as items
use Rattle.certpath_engine.specs.ItemsErrors as failures
use Rattle.certpath_engine.specs.Inputs.{Bundle, Anchors, Vouchers}
use Rattle.certpath_engine.specs.RunErrors.{OutOfMemory}

-- it names the file of this word
abbrev pub IsOfFile : List ℕ → FrameOutcome → Type 0
IsOfFile word (Unopened file) = file.now ≡ word
IsOfFile word (Framed file answer) = file.now ≡ word

-- it is of the file of this word, if of any
abbrev pub IsOfWord : List ℕ → BundleOutcome → Type 0
IsOfWord word (bundled.Unopened file) = file.now ≡ word
IsOfWord word (bundled.Unread file error) = file.now ≡ word
IsOfWord word (bundled.Bundled answer) = Unit {0}

-- it is of the file of one of these words, if of any
abbrev pub IsOfWords : List (List ℕ) → BundleOutcome → Type 0
IsOfWords words (bundled.Unopened file) = Contains words file.now
IsOfWords words (bundled.Unread file error) = Contains words file.now
IsOfWords words (bundled.Bundled answer) = Unit {0}

-- an input's file could not be opened, or memory was refused
abbrev pub IsUnopened : {T : Type 0} → PathFiles → Input → PathOutcome T → Type 0
IsUnopened files input (paths.Unopened file) = file.now ≡ word_of files input
IsUnopened files input (paths.Ran of answer) = (of ≡ files) × (answer ≡ Err OutOfMemory)

-- the word names one of these files
abbrev pub NamesOneOf : PathFiles → List ℕ → Type 0
NamesOneOf files word = (word ≡ word_of files Bundle) ⊎ (word ≡ word_of files Anchors) ⊎ (word ≡ word_of files Vouchers)

-- it names these files: one that could not be opened, or those of a run
abbrev pub IsOfFiles : {T : Type 0} → PathFiles → PathOutcome T → Type 0
IsOfFiles files (paths.Unopened file) = NamesOneOf files file.now
IsOfFiles files (paths.Ran of answer) = of ≡ files

-- it names these files, or the file of the evidence
abbrev pub IsOfSearch : PathFiles → List ℕ → PathsOutcome → Type 0
IsOfSearch files evidence (searched.Found outcome) = IsOfFiles files outcome
IsOfSearch files evidence (searched.Uncreated file) = file.now ≡ evidence
IsOfSearch files evidence (searched.Unwritten file) = file.now ≡ evidence

-- it is of these files, or of that of the evidence, if there is one
abbrev pub IsOfPaths : PathFiles → Option (Bor (List ℕ)) → PathsOutcome → Type 0
IsOfPaths files None (searched.Found outcome) = IsOfFiles files outcome
IsOfPaths files None (searched.Uncreated file) = ⊥
IsOfPaths files None (searched.Unwritten file) = ⊥
IsOfPaths files (Some evidence) outcome = IsOfSearch files evidence.now outcome

-- it names these four files: one that could not be opened, or those of a run
abbrev pub IsOfRecheck : RecheckFiles → RecheckOutcome → Type 0
IsOfRecheck files (rechecked.Unopened file) = NamesOneOf files.searched file.now ⊎ (file.now ≡ files.evidence.now)
IsOfRecheck files (rechecked.Ran of answer) = of ≡ files

-- a file of items could not be opened, or memory was refused
abbrev pub AreItemsUnopened : ItemFiles → ItemInput → QuestionsOutcome → Type 0
AreItemsUnopened files input (asked.Unopened file) = file.now ≡ item_word_of files input
AreItemsUnopened files input (asked.Asked of answer) = (of ≡ files) × (answer ≡ Err failures.OutOfMemory)

-- it names these files of items
abbrev pub IsOfItemFiles : ItemFiles → QuestionsOutcome → Type 0
IsOfItemFiles files (asked.Unopened file) = (file.now ≡ item_word_of files items.Bundle) ⊎ (file.now ≡ item_word_of files items.Anchors)
IsOfItemFiles files (asked.Asked of answer) = of ≡ files
