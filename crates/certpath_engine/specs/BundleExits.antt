-- What the program ends with after `bundle`: its exit status, and what it says on standard error.
use Rattle.std.specs.Prelude.{ℕ, ◌==◌, if◌then◌else◌, List, Result, Ok, Err, codes, string_bytes}
use Rattle.certpath_inputs.specs.declared.reading.InputError.{InputError}
use Rattle.certpath_inputs.specs.declared.reading.InputError.TheVariants as inputs
use Rattle.certpath_bundle.specs.declared.bundling.Said.{Said}
use Rattle.certpath_bundle.specs.declared.bundling.BundleError.{BundleError}
use Rattle.certpath_bundle.specs.declared.bundling.BundleError.TheVariants.{OutOfMemory, Write}
use Rattle.certpath_engine.specs.declared.bundle_exit.BundleOutcome.{BundleOutcome}
use Rattle.certpath_engine.specs.declared.bundle_exit.BundleOutcome.TheVariants.{Unopened, Unread, Bundled}
use Rattle.certpath_engine.specs.Exits.{line, cannot_read}

-- status and text if the file of this word was opened and not read
abbrev pub unread_exit_of : List ℕ → InputError → ℕ × List ℕ
unread_exit_of word inputs.Read = (4, cannot_read word)
unread_exit_of word inputs.TooLong = (4, cannot_read word)
unread_exit_of word inputs.OutOfMemory = (6, line (codes "out of memory"))

-- the status if so often something was left out
abbrev pub left_out_status_of : ℕ → ℕ
left_out_status_of count = if count == 0 then 0 else 1

abbrev pub said_exit_of : Said → ℕ × List ℕ
said_exit_of said = (left_out_status_of said.left_out, string_bytes said.text)

abbrev pub unwritten_exit_of : BundleError → ℕ × List ℕ
unwritten_exit_of OutOfMemory = (6, line (codes "out of memory"))
unwritten_exit_of Write = (7, line (codes "cannot write"))

-- status and text if the files were read
abbrev pub bundled_exit_of : Result Said BundleError → ℕ × List ℕ
bundled_exit_of (Ok said) = said_exit_of said
bundled_exit_of (Err error) = unwritten_exit_of error

-- status and text of the command `bundle`
abbrev pub bundle_exit : BundleOutcome → ℕ × List ℕ
bundle_exit (Unopened word) = (4, cannot_read word.now)
bundle_exit (Unread word error) = unread_exit_of word.now error
bundle_exit (Bundled answer) = bundled_exit_of answer
