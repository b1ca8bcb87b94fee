-- Which of several extensions is meant by an identifier.
use Rattle.std.specs.Prelude.{ℕ, Bool, List, [], ◌∷◌, Option, Some, None, Result, Ok, Err, bytes_eq, option_map}
use Rattle.std.specs.List.{filter}
use Rattle.x509_core.specs.declared.error.X509Error.{X509Error}
use Rattle.x509_core.specs.declared.error.X509Error.TheVariants as errors
use Rattle.x509_ext.specs.declared.extension.X509Extension.{X509Extension}

-- whether it has these octets as its identifier
abbrev pub has_identifier : List ℕ → X509Extension → Bool
has_identifier identifier e = bytes_eq e.oid identifier

-- those that have it
abbrev pub all_of : List ℕ → List X509Extension → List X509Extension
all_of identifier extensions = filter (has_identifier identifier) extensions

-- the first one
abbrev pub first_of : List X509Extension → Option X509Extension
first_of [] = None
first_of (e ∷ es) = Some e

-- the only one, or none
abbrev pub only_of : List X509Extension → Result (Option X509Extension) X509Error
only_of [] = Ok None
only_of (e ∷ []) = Ok (Some e)
only_of (e ∷ f ∷ es) = Err errors.DuplicateExtensions

-- what was found, seen so
abbrev pub seen : {X : Type 0} → (X → X509Extension) → Result (Option X) X509Error → Result (Option X509Extension) X509Error
seen view (Ok found) = Ok (option_map view found)
seen view (Err e) = Err e
