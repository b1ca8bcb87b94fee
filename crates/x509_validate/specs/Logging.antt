-- What was logged, by a relation of the logger's own.
use Rattle.std.specs.Prelude.{⊤, ◌≡◌, ◌⊎◌, ℕ, List, [], ◌∷◌, ◌++◌, Result, Ok, Err}
use Rattle.std.specs.List.{FoldsTo}
use Rattle.x509_validate.specs.Messages.{Weight, warning, fault, fatal, Message}
use Rattle.x509_validate.specs.declared.logger.LogError.{LogError}
use Rattle.x509_validate.specs.declared.logger.LogError.TheVariants as errors

-- which calls with this text and this answer lead from one state of a logger to another
abbrev pub Tells : Type 0 → Type 1
Tells L = L → List ℕ → Result ⊤ LogError → L → Type 0

-- a warning is logged by the one call, an error by the other
abbrev pub TellsWeight : {L : Type 0} → Tells L → Tells L → Weight → Tells L
TellsWeight warns errs warning = warns
TellsWeight warns errs fault = errs
TellsWeight warns errs fatal = errs

-- a message was logged, and the logger took it
abbrev pub Takes : {L : Type 0} → Tells L → Tells L → L → Message → L → Type 0
Takes warns errs old m new = TellsWeight warns errs m.weight old m.text (Ok tt) new

-- the messages were logged one after another, and the logger took each
abbrev pub TakesAll : {L : Type 0} → Tells L → Tells L → L → List Message → L → Type 0
TakesAll warns errs = FoldsTo (Takes warns errs)

-- the logger refused the first of these, or it wasn't called, since memory ran out
abbrev pub RefusesNext : {L : Type 0} → Tells L → Tells L → L → List Message → LogError → L → Type 0
RefusesNext warns errs old [] e new = (e ≡ errors.OutOfMemory) × (old ≡ new)
RefusesNext warns errs old (m ∷ ms) e new = ((e ≡ errors.OutOfMemory) × (old ≡ new)) ⊎ TellsWeight warns errs m.weight old m.text (Err e) new

-- some messages from the front were logged and taken; then the logger refused the next one, or none
-- was logged
pub record TakesSome {L : Type 0} (warns errs : Tells L) (old : L) (ms : List Message) (e : LogError) (new : L) : Type 0 where
  pub front : List Message
  pub back : List Message
  pub parts : ms ≡ front ++ back
  pub between : L
  pub taken : TakesAll warns errs old front between
  pub ends : RefusesNext warns errs between back e new
