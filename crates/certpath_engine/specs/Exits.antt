-- What the program ends with: its exit status, and what it says on standard error.
use Rattle.std.specs.Prelude.{ℕ, List, [], ◌∷◌, ◌++◌, Option, None, Some, codes, string_bytes}
use Rattle.std.specs.Fmt.{decimal}
use Rattle.host_names.specs.declared.refusal.Refusal.{Refusal}
use Rattle.purpose_names.specs.declared.refusal.PurposeRefusal.{PurposeRefusal}
use Rattle.purpose_names.specs.Reading.{reason_of}
use Rattle.certpath_engine.specs.Refusals.{host_reason}
use Rattle.certpath_engine.specs.declared.exit.Message.{Message}
use Rattle.certpath_engine.specs.declared.exit.Message.TheVariants.{Usage, LeftOut, BadNumber, BadMoment, BadHost, BadPurpose, OtherPurpose, CannotRead, CannotCreate, VouchersLine, EvidenceLine, OutOfMemory as NoMemory, CannotWrite, CannotWriteTo}
use Rattle.certpath_engine.specs.declared.words.WordFault.{WordFault}
use Rattle.certpath_engine.specs.declared.words.WordFault.TheVariants.{Refused, Number, Moment, Host, Purpose, OutOfMemory as NoWordMemory}

-- each of the program's own texts is one line
abbrev pub line : List ℕ → List ℕ
line text = text ++ 10 ∷ []

abbrev pub cannot_read : List ℕ → List ℕ
cannot_read word = line (codes "cannot read " ++ word)

abbrev pub cannot_create : List ℕ → List ℕ
cannot_create word = line (codes "cannot create " ++ word)

abbrev pub cannot_write_to : List ℕ → List ℕ
cannot_write_to word = line (codes "cannot write " ++ word)

abbrev pub vouchers_line : ℕ → List ℕ
vouchers_line number = line (codes "vouchers line " ++ decimal number)

abbrev pub evidence_line : ℕ → List ℕ
evidence_line number = line (codes "evidence line " ++ decimal number)

abbrev pub bad_host : Refusal → List ℕ
bad_host reason = line (codes "bad host: " ++ host_reason reason)

abbrev pub bad_purpose : PurposeRefusal → List ℕ
bad_purpose reason = line (codes "bad purpose: " ++ reason_of reason)

abbrev pub other_purpose : List ℕ
other_purpose = line (codes "the evidence is for another purpose")

-- status and text if the words are refused or ask for help
abbrev pub words_exit_of : WordFault → ℕ × List ℕ
words_exit_of (Refused text) = (2, string_bytes text)
words_exit_of Number = (2, line (codes "bad number"))
words_exit_of Moment = (2, line (codes "bad moment"))
words_exit_of (Host reason) = (2, bad_host reason)
words_exit_of (Purpose reason) = (2, bad_purpose reason)
words_exit_of NoWordMemory = (6, line (codes "out of memory"))

-- a message's text
abbrev pub message_text : Message → List ℕ
message_text (Usage text) = string_bytes text
message_text (LeftOut text) = string_bytes text
message_text BadNumber = line (codes "bad number")
message_text BadMoment = line (codes "bad moment")
message_text (BadHost reason) = bad_host reason
message_text (BadPurpose reason) = bad_purpose reason
message_text OtherPurpose = other_purpose
message_text (CannotRead word) = cannot_read word.now
message_text (CannotCreate word) = cannot_create word.now
message_text (VouchersLine number) = vouchers_line number
message_text (EvidenceLine number) = evidence_line number
message_text NoMemory = line (codes "out of memory")
message_text CannotWrite = line (codes "cannot write")
message_text (CannotWriteTo word) = cannot_write_to word.now

-- what is said, if anything is
abbrev pub words_of : Option Message → List ℕ
words_of None = []
words_of (Some message) = message_text message
