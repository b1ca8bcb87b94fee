-- What the program ends with after `recheck`: its exit status, and what it says on standard error.
use Rattle.std.specs.Prelude.{ℕ, List, [], Bool, if◌then◌else◌, Result, Ok, Err}
use Rattle.certpath_recheck.specs.declared.rechecking.RecheckError.{RecheckError}
use Rattle.certpath_recheck.specs.declared.rechecking.RecheckError.TheVariants.{Run, Read, TooLong, BadLine, OtherPurpose}
use Rattle.certpath_engine.specs.declared.recheck_exit.RecheckFiles.{RecheckFiles}
use Rattle.certpath_engine.specs.declared.recheck_exit.RecheckOutcome.{RecheckOutcome}
use Rattle.certpath_engine.specs.declared.recheck_exit.RecheckOutcome.TheVariants.{Unopened, Ran}
use Rattle.certpath_engine.specs.Exits.{cannot_read, evidence_line, other_purpose}
use Rattle.certpath_engine.specs.PathExits.{refused_exit_of}

-- status and text if the files were opened, and nothing was said of the evidence
abbrev pub unsaid_exit_of : RecheckFiles → RecheckError → ℕ × List ℕ
unsaid_exit_of files (Run error) = refused_exit_of files.searched error
unsaid_exit_of files Read = (4, cannot_read files.evidence.now)
unsaid_exit_of files TooLong = (4, cannot_read files.evidence.now)
unsaid_exit_of files (BadLine number) = (8, evidence_line number)
unsaid_exit_of files OtherPurpose = (1, other_purpose)

-- the status if the check said this
abbrev pub said_status_of : Bool → ℕ
said_status_of said = if said then 0 else 1

-- status and text if the files were opened
abbrev pub said_exit_of : RecheckFiles → Result Bool RecheckError → ℕ × List ℕ
said_exit_of files (Ok said) = (said_status_of said, [])
said_exit_of files (Err error) = unsaid_exit_of files error

-- status and text of the command `recheck`
abbrev pub recheck_exit : RecheckOutcome → ℕ × List ℕ
recheck_exit (Unopened word) = (4, cannot_read word.now)
recheck_exit (Ran files answer) = said_exit_of files answer
