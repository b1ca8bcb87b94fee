-- What the readers of this crate read, without where it lies in memory.
use Rattle.std.specs.Prelude.{◌≡◌, ℕ, Bool, true, false, List}
use Rattle.x509_ext_parse.specs.Values.{Parsed, unparsed}
use Rattle.x509_ext_parse.specs.Parsed.{IsParsed}
use Rattle.x509_ext_parse.specs.Reading.{deeply}

-- Extension (RFC 5280, 4.1 and 4.2): identifier and value are content octets
pub record Extension : Type 0 where
  pub identifier : List ℕ
  pub critical : Bool
  pub value : List ℕ
  pub parsed : Parsed

-- what the value of an extension of an identifier is parsed as: as a relation between identifier, value and that, and as a
-- function
abbrev pub ValueMeaning : Type 1
ValueMeaning = List ℕ → List ℕ → Parsed → Type 0

abbrev pub ValueReading : Type 0
ValueReading = List ℕ → List ℕ → Parsed

-- the value isn't looked into
abbrev pub IsUnparsed : ValueMeaning
IsUnparsed identifier value parsed = parsed ≡ unparsed

abbrev pub unread : ValueReading
unread identifier value = unparsed

-- whether values are looked into
abbrev pub meaning_of : Bool → ValueMeaning
meaning_of false = IsUnparsed
meaning_of true = IsParsed

abbrev pub reading_of : Bool → ValueReading
reading_of false = unread
reading_of true = deeply
