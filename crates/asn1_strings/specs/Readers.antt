-- Functions that compute what the readers of strings return. The meaning is in `Charsets` and
-- `Texts`; laws tie each function to it.
use Rattle.std.specs.Prelude.{◌≡◌, ℕ, Bool, if◌then◌else◌, List, Result, Ok, Err}
use Rattle.asn1_core.specs.declared.error.Error.{Error}
use Rattle.asn1_core.specs.declared.error.Error.TheVariants as errors

-- that octets pass the test of a character set, or why not
abbrev pub charset_at : (List ℕ → Bool) → List ℕ → Result (Unit {0}) Error
charset_at tests octets = if tests octets then Ok tt else Err errors.StringInvalidCharset

-- the text of a content, as it is
abbrev pub text_at : (List ℕ → Bool) → List ℕ → Result (List ℕ) Error
text_at tests content = if tests content then Ok content else Err errors.StringInvalidCharset

-- what the reader returns is what the function computes, its values seen by a view
abbrev pub Gives : {V W : Type 0} → (V → W) → Result V Error → Result W Error → Type 0
Gives view (Ok v) read = read ≡ Ok (view v)
Gives view (Err e) read = read ≡ Err e
