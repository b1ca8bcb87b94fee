-- What is returned for a name's text.
use Rattle.std.specs.Prelude.{◌≡◌, List, ℕ, Option, Some, None, Result, Ok, Err, string_bytes, String}
use Rattle.x509_core.specs.declared.error.X509Error.{X509Error}
use Rattle.x509_core.specs.declared.error.X509Error.TheVariants as errors
use Rattle.x509_names.specs.Fields.{Name}
use Rattle.x509_names.specs.NameTexts.{name_text}

-- that text; InvalidAttributes if there is none, and nothing else but `OutOfMemory`
abbrev pub TellsName : {A : Type 0} → (List ℕ → Option (List ℕ)) → Name → Result (String A) X509Error → Type 0
TellsName label name (Ok text) = name_text label name ≡ Some (string_bytes text)
TellsName label name (Err errors.InvalidAttributes) = name_text label name ≡ None
TellsName label name (Err e) = e ≡ errors.OutOfMemory
