-- Readers that take no memory never lack it.
use Rattle.std.proofs.Common.{◌≡◌, ℕ, List, Result, Ok, Err, IfErr, Bor}
use Rattle.std.specs.Int.Digits.{AllBelowBase}
use Rattle.asn1_any.specs.Cutting.{Piece}
use Rattle.asn1_core.specs.declared.outcome.Err.{Err as Refusal}
use Rattle.asn1_core.specs.declared.outcome.Err.TheVariants as refusals
use Rattle.x509_core.specs.asn1_traits.specs.Elements.{EndsWithinElement}
use Rattle.x509_core.specs.asn1_traits.specs.Reads.{Reads}
use Rattle.x509_core.specs.Answers.{Answer, Gives}
use Rattle.x509_core.specs.Errors.{told}
use Rattle.x509_core.specs.Fronts.{TellsMissing, TakesNoMemory}
use Rattle.x509_core.specs.Grammar.{One}
use Rattle.x509_core.specs.Reading.{next}
use Rattle.x509_core.specs.declared.error.X509Error.{X509Error}
use Rattle.x509_core.proofs.Grammars.{IsMeaning}
use Rattle.x509_core.proofs.FrontLaws.{gives_reads}

pub gives_reads_plainly : {X A : Type 0} (M : Piece → A → Type 0) (p : Piece → Answer A) → IsMeaning M p → (view : X → A) (i : List ℕ) (answer : Result (Bor (List ℕ) × X) (Refusal X509Error)) → AllBelowBase 256 i
    → Gives (λ r. (view r.1, r.0.now)) answer (next p i) → TellsMissing i answer → IfErr answer TakesNoMemory
    → Reads (λ given e. e ≡ told given) ⊥ EndsWithinElement (λ (z : Bor (List ℕ)). z.now) (λ o (v : X) r. One M o (view v) r) i answer
gives_reads_plainly M p meaning view i (Ok r) below given missing plainly = gives_reads M p meaning view i (Ok r) below given missing
gives_reads_plainly M p meaning view i (Err (refusals.Incomplete n)) below given missing plainly = gives_reads M p meaning view i (Err (refusals.Incomplete n)) below given missing
gives_reads_plainly M p meaning view i (Err (refusals.Error e)) below given missing plainly = gives_reads M p meaning view i (Err (refusals.Error e)) below given missing
gives_reads_plainly M p meaning view i (Err (refusals.Failure e)) below given missing plainly = absurd plainly
