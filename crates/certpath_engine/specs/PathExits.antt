-- What the program ends with after `path`, `why` and `paths`: its exit status, and what it says on standard error.
use Rattle.std.specs.Prelude.{ℕ, List, [], Result, Ok, Err, codes}
pub use Rattle.certpath_inputs.specs.declared.settings.Input.{Input}
use Rattle.certpath_inputs.specs.declared.settings.Input.TheVariants.{Bundle, Anchors, Vouchers}
use Rattle.certpath_run.specs.declared.settings.Outcome.{Outcome}
use Rattle.certpath_run.specs.declared.settings.Outcome.TheVariants.{Path, NoPath, NoTarget}
use Rattle.certpath_run.specs.declared.settings.AllOutcome.{AllOutcome}
use Rattle.certpath_run.specs.declared.settings.AllOutcome.TheVariants.{Each, NotEach}
use Rattle.certpath_inputs.specs.declared.settings.RunError.{RunError}
use Rattle.certpath_inputs.specs.declared.settings.RunError.TheVariants.{Read, TooLong, BadLine, OutOfMemory, Write}
use Rattle.certpath_engine.specs.declared.path_exit.PathFiles.{PathFiles}
use Rattle.certpath_engine.specs.declared.path_exit.PathOutcome.{PathOutcome}
use Rattle.certpath_engine.specs.declared.path_exit.PathOutcome.TheVariants.{Unopened, Ran}
use Rattle.certpath_engine.specs.declared.path_exit.PathsOutcome.{PathsOutcome}
use Rattle.certpath_engine.specs.declared.path_exit.PathsOutcome.TheVariants.{Found, Uncreated, Unwritten}
use Rattle.certpath_engine.specs.Exits.{line, cannot_read, cannot_create, cannot_write_to, vouchers_line}

-- the word of an input's file
abbrev pub word_of : PathFiles → Input → List ℕ
word_of files Bundle = files.bundle.now
word_of files Anchors = files.anchors.now
word_of files Vouchers = files.vouchers.now

abbrev pub status_of : Outcome → ℕ
status_of Path = 0
status_of NoPath = 1
status_of NoTarget = 3

abbrev pub all_status_of : AllOutcome → ℕ
all_status_of Each = 0
all_status_of NotEach = 1

-- status and text if the files were opened, and the run has no answer
abbrev pub refused_exit_of : PathFiles → RunError → ℕ × List ℕ
refused_exit_of files (Read input) = (4, cannot_read (word_of files input))
refused_exit_of files (TooLong input) = (4, cannot_read (word_of files input))
refused_exit_of files (BadLine number) = (5, vouchers_line number)
refused_exit_of files OutOfMemory = (6, line (codes "out of memory"))
refused_exit_of files Write = (7, line (codes "cannot write"))

-- status and text if the files were opened
abbrev pub ran_exit_of : PathFiles → Result Outcome RunError → ℕ × List ℕ
ran_exit_of files (Ok outcome) = (status_of outcome, [])
ran_exit_of files (Err error) = refused_exit_of files error

abbrev pub all_exit_of : PathFiles → Result AllOutcome RunError → ℕ × List ℕ
all_exit_of files (Ok outcome) = (all_status_of outcome, [])
all_exit_of files (Err error) = refused_exit_of files error

-- status and text of the commands `path` and `why`
abbrev pub path_exit : PathOutcome Outcome → ℕ × List ℕ
path_exit (Unopened word) = (4, cannot_read word.now)
path_exit (Ran files answer) = ran_exit_of files answer

-- and of a run over all items
abbrev pub found_exit : PathOutcome AllOutcome → ℕ × List ℕ
found_exit (Unopened word) = (4, cannot_read word.now)
found_exit (Ran files answer) = all_exit_of files answer

-- and of the command `paths`
abbrev pub paths_exit : PathsOutcome → ℕ × List ℕ
paths_exit (Found outcome) = found_exit outcome
paths_exit (Uncreated word) = (4, cannot_create word.now)
paths_exit (Unwritten word) = (7, cannot_write_to word.now)
