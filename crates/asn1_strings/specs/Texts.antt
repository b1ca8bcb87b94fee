-- Strings whose content is their text.
use Rattle.std.specs.Prelude.{◌≡◌, List, ℕ, Result, Ok, Err}
use Rattle.asn1_core.specs.declared.error.Error.{Error}
use Rattle.asn1_core.specs.declared.error.Error.TheVariants as errors

-- the value holds the content, which is text of the type
abbrev pub MeansTextOf : {V : Type 0} → (List ℕ → Type 0) → (V → List ℕ) → List ℕ → V → Type 0
MeansTextOf is_text text_of content v = (text_of v ≡ content) × is_text content

-- the octets are text, or are rejected as none
abbrev pub TestsCharset : (List ℕ → Type 0) → List ℕ → Result (Unit {0}) Error → Type 0
TestsCharset is_text octets (Ok x) = is_text octets
TestsCharset is_text octets (Err e) = (e ≡ errors.StringInvalidCharset) × (is_text octets → ⊥)
