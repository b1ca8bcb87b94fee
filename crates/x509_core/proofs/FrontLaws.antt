-- From the equation of a reader of the element at the front to what is promised of it.
use Rattle.std.proofs.Common.{◌≡◌, ◌∙◌, ap, subst, ℕ, List, ◌++◌, Result, Ok, Err, IfOk, IfErr, IsOkAnd, Bor, inr, append_assoc}
use Rattle.std.specs.Int.Digits.{AllBelowBase}
use Rattle.asn1_core.specs.Missing.{IsMissing}
use Rattle.asn1_core.specs.declared.error.Needed.{Needed}
use Rattle.asn1_core.specs.declared.error.Needed.TheVariants as needed
use Rattle.asn1_core.specs.declared.outcome.Err.{Err as Refusal}
use Rattle.asn1_core.specs.declared.outcome.Err.TheVariants as refusals
use Rattle.asn1_any.specs.Cutting.{Piece}
use Rattle.asn1_any.specs.DerElements.{HasElement}
use Rattle.asn1_any.proofs.Refusals.{element_refused, element_missing}
use Rattle.asn1_traits.specs.Elements.{EndsWithinElement}
use Rattle.asn1_traits.specs.Reads.{Reads, NoneReads, Lacks, IsNoMemory}
use Rattle.x509_core.specs.declared.error.X509Error.{X509Error}
use Rattle.x509_core.specs.Answers.{Answer, FailsWith, Gives, naming}
use Rattle.x509_core.specs.Errors.{told}
use Rattle.x509_core.specs.Grammar.{Grammar, One, WindowBox}
use Rattle.x509_core.specs.Reading.{Reader, next}
use Rattle.x509_core.proofs.Grammars.{IsMeaning, IsReading, next_reading, was_named, is_named}
use Rattle.x509_core.proofs.Many.{error_by}
use Rattle.x509_core.proofs.Public.{gives_only}
use Rattle.x509_core.specs.Fronts.{TellsMissing, IsWindow, IsOnly}

-- if octets of an element are missing, no value of one begins with fewer of them
lacks : {A : Type 0} (M : Piece → A → Type 0) (octets : List ℕ) (n : Needed) → IsMissing HasElement octets (refusals.Incomplete n) → (V : Type 0) (view : V → A) → Lacks (λ o (v : V) r. One M o (view v) r) octets n
lacks M octets needed.Unknown missing V view = absurd missing
lacks M octets (needed.Size n) missing V view =
    (missing.0, λ more short v rest is. missing.1 more short (is.piece.element, rest, record { front = is.piece.octets; spells = is.spells; whole = is.whole }))

-- an error of a reading isn't `OutOfMemory`
no_memory : {A : Type 0} (e : X509Error) (read : Answer A) → FailsWith e read → IsNoMemory (λ given x. x ≡ told given) e
no_memory e read fails = inr (λ is. subst (λ z. FailsWith z read) is fails)

-- what is refused gives no value
none_reads : {A V : Type 0} (P : Grammar A) (p : Reader A) → IsReading P p → (view : V → A) (i : List ℕ) (e : X509Error) → AllBelowBase 256 i → FailsWith e (p i) → NoneReads (λ o (v : V) r. P o (view v) r) i
none_reads P p reading view i e below fails v r is =
    let read = reading.only i (view v) r below is in
    let by = error_by e (p i) fails in
    let refused : p i ≡ Err by.0 = by.1 in
    cc

pub gives_reads : {X A : Type 0} (M : Piece → A → Type 0) (p : Piece → Answer A) → IsMeaning M p → (view : X → A) (i : List ℕ) (answer : Result (Bor (List ℕ) × X) (Refusal X509Error)) → AllBelowBase 256 i
    → Gives (λ r. (view r.1, r.0.now)) answer (next p i) → TellsMissing i answer
    → Reads (λ given e. e ≡ told given) (Unit {0}) EndsWithinElement (λ (z : Bor (List ℕ)). z.now) (λ o (v : X) r. One M o (view v) r) i answer
gives_reads M p meaning view i (Ok r) below given missing = ((next_reading M p meaning).found i (view r.1) r.0.now below given).0
gives_reads {X = X} M p meaning view i (Err (refusals.Incomplete n)) below given missing =
    (missing, lacks M i n (element_missing i (refusals.Incomplete n) (element_refused i (refusals.Incomplete n) below missing)) X view)
gives_reads M p meaning view i (Err (refusals.Error e)) below given missing =
    (none_reads (One M) (next p) (next_reading M p meaning) view i e below given, no_memory e (next p i) given, missing)
gives_reads M p meaning view i (Err (refusals.Failure e)) below given missing = (given, tt)

-- a reading reads one grammar, whether or not its refusals are named
pub named_reading : {A : Type 0} (P : Grammar A) (p : Reader A) (e : X509Error) → IsReading P p → IsReading P (λ i. naming e (p i))
named_reading P p e reading = record {
  found = λ i v r below given. reading.found i v r below (was_named e (p i) (v, r) given);
  only = λ i v r below is. is_named e (p i) (v, r) (reading.only i v r below is);
}

-- a reader with one error alone
abbrev pub IsRefusedBy : {X : Type 0} → X509Error → Result X (Refusal X509Error) → Type 0
IsRefusedBy x answer = IfErr answer (λ e. e ≡ refusals.Error x)

pub gives_whole : {X A : Type 0} (P : Grammar A) (p : Reader A) → IsReading P p → (view : X → A) (i : List ℕ) (x : X509Error) (answer : Result (Bor (List ℕ) × X) (Refusal X509Error)) → AllBelowBase 256 i
    → Gives (λ r. (view r.1, r.0.now)) answer (p i) → IsRefusedBy x answer
    → Reads (λ given e. e ≡ told given) ⊥ (λ _ _. ⊥) (λ (z : Bor (List ℕ)). z.now) (λ o (v : X) r. P o (view v) r) i answer
gives_whole P p reading view i x (Ok r) below given by = (reading.found i (view r.1) r.0.now below given).0
gives_whole P p reading view i x (Err (refusals.Incomplete n)) below given by = cc by
gives_whole P p reading view i x (Err (refusals.Error e)) below given by = (none_reads P p reading view i e below given, no_memory e (p i) given, λ n is. is)
gives_whole P p reading view i x (Err (refusals.Failure e)) below given by = cc by

pub gives_only_whole : {X A : Type 0} (P : Grammar A) (p : Reader A) → IsReading P p → (view : X → A) (i : List ℕ) (x : X509Error) (answer : Result (Bor (List ℕ) × X) (Refusal X509Error)) → AllBelowBase 256 i
    → Gives (λ r. (view r.1, r.0.now)) answer (p i) → IsRefusedBy x answer
    → (v : A) (rest : List ℕ) → P i v rest → IsOkAnd answer (λ r. (view r.1 ≡ v) × (r.0.now ≡ rest))
gives_only_whole P p reading view i x (Ok r) below given by v rest is = gives_only P p reading view i (Ok r) below given v rest is
gives_only_whole P p reading view i x (Err (refusals.Incomplete n)) below given by v rest is = cc by
gives_only_whole P p reading view i x (Err (refusals.Error e)) below given by v rest is =
    absurd (gives_only P p reading view i (Err (refusals.Error e)) below given v rest is)
gives_only_whole P p reading view i x (Err (refusals.Failure e)) below given by v rest is = cc by

-- a reader whose refusals have one name, but for `OutOfMemory`
pub gives_only_named : {X A : Type 0} (P : Grammar A) (p : Reader A) → IsReading P p → (view : X → A) (i : List ℕ) (x : X509Error) (answer : Result (Bor (List ℕ) × X) (Refusal X509Error)) → AllBelowBase 256 i
    → Gives (λ r. (view r.1, r.0.now)) answer (p i) → IfErr answer (IsOnly x)
    → Reads (λ given e. e ≡ told given) (Unit {0}) (λ _ _. ⊥) (λ (z : Bor (List ℕ)). z.now) (λ o (v : X) r. P o (view v) r) i answer
gives_only_named P p reading view i x (Ok r) below given only = (reading.found i (view r.1) r.0.now below given).0
gives_only_named P p reading view i x (Err (refusals.Incomplete n)) below given only = absurd only
gives_only_named P p reading view i x (Err (refusals.Error e)) below given only = (none_reads P p reading view i e below given, no_memory e (p i) given, λ n is. is)
gives_only_named P p reading view i x (Err (refusals.Failure e)) below given only = (given, tt)

-- the window of what was found
pub gives_window : {X A : Type 0} (n : ℕ) (P : Grammar A) (raw : A → List ℕ) (view : X → A) (i : List ℕ) (answer : Result (Bor (List ℕ) × X) (Refusal X509Error)) → IfOk answer (λ r. WindowBox n P raw i (view r.1) r.0.now)
    → IfOk answer (λ r. IsWindow i (raw (view r.1)) r.0.now)
gives_window n P raw view i (Ok r) found = (found.means.left, found.whole ∙ ap (λ z. z ++ r.0.now) found.means.window ∙ append_assoc (raw (view r.1)) found.means.left r.0.now)
gives_window n P raw view i (Err e) found = tt
