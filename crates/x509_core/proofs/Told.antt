-- Refusals of elements, as reported by a reader of certificates.
use Rattle.std.proofs.Common.{◌≡◌, ◌≢◌, refl, sym, ap, subst, ℕ, List, Err}
use Rattle.std.specs.Result.{result_ok}
use Rattle.std.specs.Int.Digits.{AllBelowBase}
use Rattle.asn1_core.specs.declared.error.Error.{Error}
use Rattle.asn1_core.specs.declared.error.Error.TheVariants as der
use Rattle.asn1_core.specs.declared.outcome.Err.{Err as Refusal}
use Rattle.asn1_core.specs.declared.outcome.Err.TheVariants as refusals
use Rattle.asn1_core.specs.Answers.{TakesNoMemory}
use Rattle.asn1_core.specs.Conversions.{Converts}
use Rattle.asn1_core.specs.Reading.{header_at}
use Rattle.asn1_core.proofs.Refusals.{header_refused, no_memory}
use Rattle.x509_core.specs.declared.error.X509Error.{X509Error}
use Rattle.x509_core.specs.Errors.{told}
use Rattle.x509_core.specs.Answers.{Answer, unnamed, FailsWith, Fails, plain}
use Rattle.x509_core.specs.Reading.{front_header_at}

pub told_plain : {Y : Type 0} (e : Error) (read : Answer Y) → e ≢ der.OutOfMemory → read ≡ Err unnamed → FailsWith (told e) read
told_plain der.OutOfMemory read other refused = absurd (other refl)
told_plain e read other refused = (other, refused)

pub told_refused : {Y : Type 0} (e : Refusal Error) (r : Refusal X509Error) (read : Answer Y) → TakesNoMemory e → Converts (λ d x. x ≡ told d) e r → read ≡ Err unnamed → Fails r read
told_refused (refusals.Incomplete n) r read plainly given refused = subst (λ z. Fails z read) (sym given) refused
told_refused (refusals.Error e) (refusals.Incomplete n) read plainly given refused = absurd given
told_refused (refusals.Error e) (refusals.Error x) read plainly given refused = subst (λ z. FailsWith z read) (sym given) (told_plain e read plainly refused)
told_refused (refusals.Error e) (refusals.Failure x) read plainly given refused = absurd given
told_refused (refusals.Failure e) r read plainly given refused = absurd plainly

pub header_told : (i : List ℕ) (e : Refusal Error) (r : Refusal X509Error) → AllBelowBase 256 i → header_at i ≡ Err e → Converts (λ d x. x ≡ told d) e r → Fails r (front_header_at i)
unfolding front_header_at
header_told i e r below read given =
    told_refused e r (plain (result_ok (header_at i))) (no_memory header_at i e (header_refused i e below read)) given (ap (λ z. plain (result_ok z)) read)
