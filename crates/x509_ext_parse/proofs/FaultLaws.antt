-- Why a value is none of its type, from what its reader returns.
use Rattle.std.proofs.Common.{◌≡◌, ◌∙◌, refl, sym, subst, ℕ, List, Result, Ok, Err, Bor, Option, Some, None, IfSome}
use Rattle.asn1_core.specs.declared.error.Error.{Error}
use Rattle.asn1_core.specs.declared.error.Error.TheVariants as der
use Rattle.asn1_core.specs.declared.outcome.Err.{Err as Refusal}
use Rattle.asn1_core.specs.declared.outcome.Err.TheVariants as refusals
use Rattle.asn1_traits.specs.Elements.{EndsWithinElement}
use Rattle.asn1_traits.specs.Reads.{Reads}
use Rattle.x509_core.specs.Errors.{told}
use Rattle.x509_core.specs.Fronts.{TellsMissing}
use Rattle.x509_core.specs.declared.error.X509Error.{X509Error}
use Rattle.x509_core.specs.declared.error.X509Error.TheVariants as errors
use Rattle.x509_ext_parse.specs.Cases.{IsSettled, IsHeld, HoldsFault, HoldsFaultOf, element_error, error_of}
use Rattle.x509_ext_parse.specs.Faults.{IsCutOff, FaultOf, IsFaultOf}
use Rattle.x509_ext_parse.specs.Kinds.{identifier_of}
use Rattle.x509_ext_parse.specs.Reading.{kind_of}
use Rattle.x509_ext_parse.specs.declared.kind.Kind.{Kind}
use Rattle.x509_ext_parse.specs.declared.parsed.ParsedExtension.{ParsedExtension}
use Rattle.x509_ext_parse.proofs.Laws.{kind_found}

-- ---- the error that is held

pub element_is : (e : Error) → (e ≡ der.OutOfMemory → ⊥) → element_error (errors.Der e) ≡ e
element_is der.OutOfMemory other = absurd (other refl)
element_is e other = refl

pub other_is : (e : X509Error) → ((x : Error) → e ≡ errors.Der x → ⊥) → element_error e ≡ der.BerValueError
other_is (errors.Der x) other = absurd (other x refl)
other_is e other = refl

-- ---- whether octets are missing

pub by_missing : {V : Type 0} (value : List ℕ) (answer : Result (Bor (List ℕ) × V) (Refusal X509Error)) (e : Refusal Error) → TellsMissing value answer → IsSettled answer (Ok (Err e)) → IsCutOff value e
by_missing value (Ok x) e missing settled = absurd settled
by_missing value (Err (refusals.Incomplete n)) e missing settled = subst (IsCutOff value) (sym settled.2) missing
by_missing value (Err (refusals.Error x)) e missing settled = subst (IsCutOff value) (sym settled.2) missing
by_missing value (Err (refusals.Failure x)) e missing settled = absurd settled.0

pub by_reads : {V : Type 0} (grows : Type 0) (reads : List ℕ → V → List ℕ → Type 0) (value : List ℕ) (answer : Result (Bor (List ℕ) × V) (Refusal X509Error)) (e : Refusal Error)
    → Reads (λ given x. x ≡ told given) grows EndsWithinElement (λ (z : Bor (List ℕ)). z.now) reads value answer → IsSettled answer (Ok (Err e)) → IsCutOff value e
by_reads grows reads value (Ok x) e given settled = absurd settled
by_reads grows reads value (Err (refusals.Incomplete n)) e given settled = subst (IsCutOff value) (sym settled.2) given.0
by_reads grows reads value (Err (refusals.Error x)) e given settled = subst (IsCutOff value) (sym settled.2) given.2
by_reads grows reads value (Err (refusals.Failure x)) e given settled = absurd settled.0

pub by_refused : (V : Type 0) (value : List ℕ) (refusal : Refusal X509Error) (e : Refusal Error) → TellsMissing {X = V} value (Err refusal) → IsHeld refusal e → IsCutOff value e
by_refused V value (refusals.Incomplete n) e missing held = subst (IsCutOff value) (sym held) missing
by_refused V value (refusals.Error x) e missing held = subst (IsCutOff value) (sym held) missing
by_refused V value (refusals.Failure x) e missing held = absurd held

-- ---- an error that is known

pub held_by : {V : Type 0} (answer : Result (Bor (List ℕ) × V) (Refusal X509Error)) (x : X509Error) (e : Refusal Error) → IsSettled answer (Ok (Err e)) → answer ≡ Err (refusals.Error x) → e ≡ refusals.Error (element_error x)
held_by answer x e settled is = (subst (λ z. IsSettled z (Ok (Err e))) is settled).2

-- ---- by identifier

same_kind : (kind other : Kind) → (let some : Option Kind = Some kind in some ≡ Some other) → kind ≡ other
same_kind kind other same = cc

some_weaker : {X : Type 0} (o : Option X) (A B : X → Type 0) → ((x : X) → A x → B x) → IfSome o A → IfSome o B
some_weaker (Some x) A B weaker some = weaker x some
some_weaker None A B weaker some = tt

fault_of_kind : (identifier value : List ℕ) (kind : Kind) (e : Refusal Error) → kind_of identifier ≡ Some kind → FaultOf kind value e → IsFaultOf identifier value e
fault_of_kind identifier value kind e known fault = λ other is. subst (λ k. FaultOf k value e) (same_kind kind other (sym known ∙ kind_found identifier other is)) fault

pub kept_fault : (identifier value : List ℕ) (kind : Kind) (p : ParsedExtension) → kind_of identifier ≡ Some kind → HoldsFaultOf kind value p → HoldsFault identifier value p
kept_fault identifier value kind p known = some_weaker (error_of p) (FaultOf kind value) (IsFaultOf identifier value) (λ e fault. fault_of_kind identifier value kind e known fault)
