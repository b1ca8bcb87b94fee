-- What was taken of a reading.
use Rattle.std.proofs.Common.{◌≡◌, ◌∙◌, ap, subst, Option, Some, None, Ok, Err}
use Rattle.x509_core.specs.Answers.{Answer, Why}
use Rattle.x509_items.specs.Answers.{Takes, IfTaken}

pub taken_some : {X Y : Type 0} (view : X → Y) (o : Option X) (x : X) (read : Answer Y) → o ≡ Some x → Takes view (Ok o) read → read ≡ Ok (view x)
taken_some view (Some y) x read is told = let same : y ≡ x = cc in told ∙ ap (λ z. Ok (view z)) same
taken_some view None x read is told = cc

pub taken_none : {X Y : Type 0} (view : X → Y) (o : Option X) (read : Answer Y) → o ≡ None → Takes view (Ok o) read → (why : Why) × (read ≡ Err why)
taken_none view (Some y) read is told = cc
taken_none view None read is told = told

pub if_taken : {X : Type 0} (o : Option X) (x : X) (P : X → Type 0) → o ≡ Some x → IfTaken (Ok o) P → P x
if_taken (Some y) x P is told = let same : y ≡ x = cc in subst P same told
if_taken None x P is told = cc
