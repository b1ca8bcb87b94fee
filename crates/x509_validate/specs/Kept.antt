-- Texts that are kept, or written.
use Rattle.std.specs.Prelude.{⊤, ◌≡◌, ℕ, ◌+◌, List, [], ◌∷◌, ◌++◌, map, string_bytes, Option, Result, Ok, Err}
use Rattle.std.specs.Io.KnownBytes.{Appends}
use Rattle.asn1_device.specs.Counts.{AppendsFront}
use Rattle.x509_validate.specs.declared.logger.LogError.{LogError}
use Rattle.x509_validate.specs.declared.vec_logger.VecLogger.{VecLogger}
use Rattle.x509_validate.specs.Logging.{Tells}
use Rattle.x509_validate.specs.Messages.{Weight, warning, fault, fatal, Message}
use Rattle.x509_validate.specs.declared.logger.LogError.TheVariants as errors

-- the text came after those that were kept, or memory ran out and they are as they were
abbrev pub Keeps : List (List ℕ) → List (List ℕ) → List ℕ → Result ⊤ LogError → Type 0
Keeps old new text (Ok x) = new ≡ old ++ text ∷ []
Keeps old new text (Err e) = (e ≡ errors.OutOfMemory) × (new ≡ old)

-- the line was written and no write failed, or a front of it was, and one failed (of the writer: what it holds, and how many of its calls failed)
abbrev pub WritesLine : Option (List ℕ) → Option (List ℕ) → ℕ → ℕ → List ℕ → Result ⊤ LogError → Type 0
WritesLine old new old_failures new_failures line (Ok x) = Appends old new (line ++ 10 ∷ []) × (new_failures ≡ old_failures)
WritesLine old new old_failures new_failures line (Err e) = (e ≡ errors.Write) × AppendsFront old new (line ++ 10 ∷ []) × (new_failures ≡ old_failures + 1)

-- a warning came after those that were kept, or memory ran out; errors are as they were
abbrev pub KeepsWarning : Tells VecLogger
KeepsWarning old text answer new = Keeps (map string_bytes old.warnings.items) (map string_bytes new.warnings.items) text answer × (old.errors.items ≡ new.errors.items)

abbrev pub KeepsError : Tells VecLogger
KeepsError old text answer new = Keeps (map string_bytes old.errors.items) (map string_bytes new.errors.items) text answer × (old.warnings.items ≡ new.warnings.items)

-- the texts that are logged as warnings, and those that are logged as errors
abbrev pub warning_text : Weight → List ℕ → List (List ℕ)
warning_text warning text = text ∷ []
warning_text fault text = []
warning_text fatal text = []

abbrev pub error_text : Weight → List ℕ → List (List ℕ)
error_text warning text = []
error_text fault text = text ∷ []
error_text fatal text = text ∷ []

abbrev pub warning_texts : List Message → List (List ℕ)
warning_texts [] = []
warning_texts (m ∷ ms) = warning_text m.weight m.text ++ warning_texts ms

abbrev pub error_texts : List Message → List (List ℕ)
error_texts [] = []
error_texts (m ∷ ms) = error_text m.weight m.text ++ error_texts ms
