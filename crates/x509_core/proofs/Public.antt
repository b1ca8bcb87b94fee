-- From the equation of a reader to what is promised of it.
use Rattle.std.proofs.Common.{◌≡◌, ap, ℕ, List, Result, Ok, Err, Bor, IfOk}
use Rattle.std.specs.Int.Digits.{AllBelowBase}
use Rattle.asn1_core.specs.declared.outcome.Err.{Err as Refusal}
use Rattle.asn1_core.specs.declared.outcome.Err.TheVariants as refusals
use Rattle.x509_core.specs.declared.error.X509Error.{X509Error}
use Rattle.x509_core.specs.Answers.{Answer, Fails, Gives, OrMemory, ElseMemory}
use Rattle.x509_core.specs.Reading.{Reader}
use Rattle.x509_core.specs.Grammar.{Grammar}
use Rattle.x509_core.proofs.Grammars.{IsReading}
use Rattle.x509_core.proofs.Many.{error_by}

pub gives_found : {X A : Type 0} (P : Grammar A) (p : Reader A) → IsReading P p → (view : X → A) (i : List ℕ) (answer : Result (Bor (List ℕ) × X) (Refusal X509Error)) → AllBelowBase 256 i
    → Gives (λ r. (view r.1, r.0.now)) answer (p i) → IfOk answer (λ r. P i (view r.1) r.0.now)
gives_found P p reading view i (Ok r) below given = (reading.found i (view r.1) r.0.now below given).0
gives_found P p reading view i (Err e) below given = tt

never : {A : Type 0} (e : Refusal X509Error) (read : Answer A) (x : A) → Fails e read → read ≡ Ok x → OrMemory e
never (refusals.Incomplete n) read x fails is = cc
never (refusals.Failure e) read x fails is = fails
never (refusals.Error e) read x fails is = let by = error_by e read fails in let wrong : read ≡ Err by.0 = by.1 in cc

pub gives_only : {X A : Type 0} (P : Grammar A) (p : Reader A) → IsReading P p → (view : X → A) (i : List ℕ) (answer : Result (Bor (List ℕ) × X) (Refusal X509Error)) → AllBelowBase 256 i
    → Gives (λ r. (view r.1, r.0.now)) answer (p i) → (v : A) (rest : List ℕ) → P i v rest → ElseMemory answer (λ r. (view r.1 ≡ v) × (r.0.now ≡ rest))
gives_only {A = A} P p reading view i (Ok r) below given v rest is =
    let both : ◌≡◌ {A = A × List ℕ} (view r.1, r.0.now) (v, rest) = let there = reading.only i v rest below is in cc in
    (ap (λ (z : A × List ℕ). z.0) both, ap (λ (z : A × List ℕ). z.1) both)
gives_only P p reading view i (Err e) below given v rest is = never e (p i) (v, rest) given (reading.only i v rest below is)
