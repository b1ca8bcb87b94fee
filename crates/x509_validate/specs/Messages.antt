-- What validators say: messages in their order.
use Rattle.std.specs.Prelude.{ℕ, Bool, true, false, List}
use Rattle.std.specs.List.{list_all}

-- how bad it is
pub data Weight : Type 0 where
  -- logged as a warning
  warning : Weight
  -- logged as an error
  fault : Weight
  -- logged as an error, and the result is false
  fatal : Weight

-- a message and its text, as octets
pub record Message : Type 0 where
  pub weight : Weight
  pub text : List ℕ

abbrev pub message : Weight → List ℕ → Message
message weight text = record { weight = weight; text = text }

-- it leaves the answer true
abbrev pub passes_weight : Weight → Bool
passes_weight warning = true
passes_weight fault = true
passes_weight fatal = false

abbrev pub passes : Message → Bool
passes m = passes_weight m.weight

-- no message is fatal
abbrev pub all_pass : List Message → Bool
all_pass ms = list_all passes ms
