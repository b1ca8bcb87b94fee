-- What a number says of itself.
use Rattle.std.specs.Prelude.{ℕ, if◌then◌else◌, codes, List, [], ◌∷◌, nat_lt}
use Rattle.x509_parser.specs.x509_validate.specs.Messages.{Message, message, warning}

-- a warning where it is above 10
abbrev pub warnings_of : ℕ → List Message
warnings_of n = if nat_lt 10 n then message warning (codes "a is greater than 10") ∷ [] else []
