-- What the program ends with after `frame` and `questions`: its exit status, and what it says on standard error.
use Rattle.std.specs.Prelude.{ℕ, List, [], Result, Ok, Err, codes}
use Rattle.std.specs.Borrow.{Bor}
use Rattle.cert_framing.specs.declared.ending.End.{End}
use Rattle.cert_framing.specs.declared.ending.End.TheVariants.{Clean, Cut, Fault}
pub use Rattle.certpath_run.specs.declared.items.ItemInput.{ItemInput}
use Rattle.certpath_run.specs.declared.items.ItemInput.TheVariants.{Bundle, Anchors}
use Rattle.certpath_run.specs.declared.items.ItemsError.{ItemsError}
use Rattle.certpath_run.specs.declared.items.ItemsError.TheVariants.{Read, TooLong, OutOfMemory, Write}
use Rattle.certpath_engine.specs.declared.items_exit.FrameOutcome.{FrameOutcome}
use Rattle.certpath_engine.specs.declared.items_exit.FrameOutcome.TheVariants as frames
use Rattle.certpath_engine.specs.declared.items_exit.ItemFiles.{ItemFiles}
use Rattle.certpath_engine.specs.declared.items_exit.QuestionsOutcome.{QuestionsOutcome}
use Rattle.certpath_engine.specs.declared.items_exit.QuestionsOutcome.TheVariants.{Unopened, Asked}
use Rattle.certpath_engine.specs.Exits.{line, cannot_read}

-- the word of an input's file
abbrev pub item_word_of : ItemFiles → ItemInput → List ℕ
item_word_of files Bundle = files.bundle.now
item_word_of files Anchors = files.anchors.now

-- a run with one input
abbrev pub one_file : Bor (List ℕ) → ItemFiles
one_file word = record { bundle = word; anchors = word }

-- status and text if the files were opened, and not all was written
abbrev pub items_exit_of : ItemFiles → ItemsError → ℕ × List ℕ
items_exit_of files (Read input) = (4, cannot_read (item_word_of files input))
items_exit_of files (TooLong input) = (4, cannot_read (item_word_of files input))
items_exit_of files OutOfMemory = (6, line (codes "out of memory"))
items_exit_of files Write = (7, line (codes "cannot write"))

-- the status if a stream ends so
abbrev pub end_status_of : End → ℕ
end_status_of Clean = 0
end_status_of (Cut at) = 1
end_status_of (Fault at) = 1

-- status and text of `frame` if the file of this word was opened
abbrev pub framed_exit_of : Bor (List ℕ) → Result End ItemsError → ℕ × List ℕ
framed_exit_of word (Ok end) = (end_status_of end, [])
framed_exit_of word (Err error) = items_exit_of (one_file word) error

-- status and text of the command `frame`
abbrev pub frame_exit : FrameOutcome → ℕ × List ℕ
frame_exit (frames.Unopened word) = (4, cannot_read word.now)
frame_exit (frames.Framed word answer) = framed_exit_of word answer

-- status and text of `questions` if the files were opened
abbrev pub asked_exit_of : {A : Type 0} → ItemFiles → Result A ItemsError → ℕ × List ℕ
asked_exit_of files (Ok done) = (0, [])
asked_exit_of files (Err error) = items_exit_of files error

-- status and text of the command `questions`
abbrev pub questions_exit : QuestionsOutcome → ℕ × List ℕ
questions_exit (Unopened word) = (4, cannot_read word.now)
questions_exit (Asked files answer) = asked_exit_of files answer
