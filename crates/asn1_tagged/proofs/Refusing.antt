-- When a parser hands nothing to its closure, and refuses.
use Rattle.std.proofs.Common.{◌≡◌, ◌≢◌, ◌-◌, ◌∙◌, inl, refl, sym, ap, subst, ℕ, List, []}
use Rattle.asn1_core.specs.Answers.{TakesNoMemory}
use Rattle.asn1_core.specs.Conversions.{RefusesWith, RefusesFor, Converts}
use Rattle.asn1_core.specs.Elements.{Element}
use Rattle.asn1_core.specs.Missing.{IsMissing}
use Rattle.asn1_core.specs.Views.{class_number}
use Rattle.asn1_core.specs.declared.class.Class.{Class}
use Rattle.asn1_core.specs.declared.class.Class.TheVariants.{Universal, Application, ContextSpecific, Private}
use Rattle.asn1_core.specs.declared.error.Error.{Error}
use Rattle.asn1_core.specs.declared.error.Error.TheVariants as errors
use Rattle.asn1_core.specs.declared.error.Needed.{Needed}
use Rattle.asn1_core.specs.declared.outcome.Err.{Err as Refusal}
use Rattle.asn1_core.specs.declared.outcome.Err.TheVariants as refusals
use Rattle.asn1_any.specs.DerElements.{BeginsWithElement}
use Rattle.asn1_any.specs.BerElements.{BerElement, BeginsWithBerElement, element_of_ber}
use Rattle.asn1_any.specs.declared.read.TheConstants.{MAX_RECURSION}
use Rattle.asn1_any.proofs.DerLaws.{der_once}
use Rattle.asn1_any.proofs.BerReading.{ber_once}
use Rattle.asn1_tagged.specs.Parsing.{BerBegins, IsUnfit, IsRefusal}

-- classes of one number are one
pub same_class : (c d : Class) → class_number c ≡ class_number d → c ≡ d
same_class Universal Universal e = refl
same_class Universal Application e = cc
same_class Universal ContextSpecific e = cc
same_class Universal Private e = cc
same_class Application Universal e = cc
same_class Application Application e = refl
same_class Application ContextSpecific e = cc
same_class Application Private e = cc
same_class ContextSpecific Universal e = cc
same_class ContextSpecific Application e = cc
same_class ContextSpecific ContextSpecific e = refl
same_class ContextSpecific Private e = cc
same_class Private Universal e = cc
same_class Private Application e = cc
same_class Private ContextSpecific e = cc
same_class Private Private e = refl

refused_with : {E : Type 0} (gives : Error → E → Type 0) (Lacks : Needed → Type 0) (x : Error) (r : Refusal E) → x ≢ errors.OutOfMemory → RefusesWith gives x r → ((n : Needed) → Lacks n → ⊥) → IsRefusal gives Lacks r
refused_with gives Lacks x (refusals.Incomplete n) ne h whole = absurd h
refused_with gives Lacks x (refusals.Error e) ne h whole = (inl (x, ne, h), whole)
refused_with gives Lacks x (refusals.Failure e) ne h whole = absurd h

-- an error that isn't `OutOfMemory`, converted, if no octet is missing
pub refused_from : {E : Type 0} (gives : Error → E → Type 0) (Lacks : Needed → Type 0) (x : Error) (r : Refusal E) → x ≢ errors.OutOfMemory → RefusesFor gives x r → ((n : Needed) → Lacks n → ⊥) → IsRefusal gives Lacks r
refused_from gives Lacks errors.OutOfMemory r ne h whole = absurd (ne refl)
refused_from gives Lacks x r ne h whole = refused_with gives Lacks x r ne h whole

-- a refusal of a reader that takes no memory, its error converted
pub refused_by : {E : Type 0} (gives : Error → E → Type 0) (Lacks : Needed → Type 0) (given : Refusal Error) (r : Refusal E) → Converts gives given r → TakesNoMemory given →
    ((n : Needed) → given ≡ refusals.Incomplete n → Lacks n) → ((n : Needed) → Lacks n → given ≡ refusals.Incomplete n) → IsRefusal gives Lacks r
refused_by gives Lacks (refusals.Incomplete n) r h t cut only = let P : Refusal _ → Type 0 = λ z. IsRefusal gives Lacks z in subst P (sym h) (cut n refl)
refused_by gives Lacks (refusals.Error e) r h t cut only = refused_with gives Lacks e r t h (λ n is. let bad = only n is in cc)
refused_by gives Lacks (refusals.Failure e) r h t cut only = absurd t

-- the next element has another class
unfit : (Begins : Element → List ℕ → Type 0) (octets : List ℕ) (class tag : ℕ) (e : Element) → octets ≢ [] → ((f : Element) (s : List ℕ) → Begins f s → f ≡ e) → e.tag ≡ tag → e.class ≢ class → IsUnfit Begins class tag octets
unfit Begins octets class tag e some once p q = record {
  some = some;
  only = λ f s b.
      let is : f ≡ e = once f s b in
      (ap (λ (z : Element). z.tag) is ∙ p, λ h. q (sym (ap (λ (z : Element). z.class) is) ∙ h));
}

pub der_unfit : (octets rest : List ℕ) (class tag : ℕ) (e : Element) → octets ≢ [] → BeginsWithElement octets e rest → e.tag ≡ tag → e.class ≢ class → IsUnfit (BeginsWithElement octets) class tag octets
der_unfit octets rest class tag e some begins p q = unfit (BeginsWithElement octets) octets class tag e some (λ f s b. (der_once octets s rest f e b begins).0) p q

pub ber_unfit : (octets rest : List ℕ) (class tag : ℕ) (e : BerElement) → octets ≢ [] → BeginsWithBerElement (MAX_RECURSION - 1) octets e rest → e.head.tag ≡ tag → e.head.class ≢ class →
    IsUnfit (BerBegins octets) class tag octets
ber_unfit octets rest class tag e some begins p q =
    unfit (BerBegins octets) octets class tag (element_of_ber e) some
    (λ f s b. sym b.says ∙ ap element_of_ber (ber_once (MAX_RECURSION - 1) octets s rest b.element e b.begins begins).0) p q

-- no element is next
pub none_unfit : (Begins : Element → List ℕ → Type 0) (octets : List ℕ) (class tag : ℕ) → octets ≢ [] → ((f : Element) (s : List ℕ) → Begins f s → ⊥) → IsUnfit Begins class tag octets
none_unfit Begins octets class tag some none = record { some = some; only = λ f s b. absurd (none f s b) }

-- the octets that a refusal reports as missing
pub told_missing : (Has : List ℕ → Type 0) (octets : List ℕ) (given : Refusal Error) (n : Needed) → given ≡ refusals.Incomplete n → IsMissing Has octets given → IsMissing Has octets (refusals.Incomplete n)
told_missing Has octets given n is missing = let P : Refusal Error → Type 0 = λ z. IsMissing Has octets z in subst P is missing
