-- Values read from the element that begins the octets, or that none is: none in the element, or no element there.
use Rattle.std.proofs.Common.{◌≡◌, ◌≢◌, ◌∙◌, ◌-◌, refl, sym, ap, subst, ℕ, ◌<◌, List, ◌++◌, length, Option, Some, Result, Ok, Err}
use Rattle.asn1_core.specs.Elements.{Element}
use Rattle.asn1_core.specs.Missing.{IsMissing}
use Rattle.asn1_core.specs.Views.{class_number, definite_size, length_of}
use Rattle.asn1_core.specs.declared.error.Error.{Error}
use Rattle.asn1_core.specs.declared.error.Needed.{Needed}
use Rattle.asn1_core.specs.declared.error.Needed.TheVariants as needed
use Rattle.asn1_core.specs.declared.length.Length.{Length}
use Rattle.asn1_core.specs.declared.length.Length.TheVariants.{Definite}
use Rattle.asn1_core.specs.declared.outcome.Err.{Err as Refusal}
use Rattle.asn1_core.specs.declared.outcome.Err.TheVariants as refusals
use Rattle.asn1_any.specs.DerElements.{BeginsWithElement, HasElement}
use Rattle.asn1_any.specs.BerElements.{BerElement, definite_element, BeginsWithBerElement, HasBerElement, element_of_ber}
use Rattle.asn1_any.specs.Views.{any_of, ber_any_of}
use Rattle.asn1_any.specs.declared.any.Any.{Any}
use Rattle.asn1_any.specs.declared.read.TheConstants.{MAX_RECURSION}
use Rattle.asn1_any.proofs.DerLaws.{der_once}
use Rattle.asn1_any.proofs.BerReading.{ber_once}
use Rattle.asn1_traits.specs.Reads.{Refuses, ReadsOf, NoValue, NoneReads, Lacks, AndAllowed}
use Rattle.asn1_traits.specs.Elements.{ReadsElement, ReadsBerElement}
use Rattle.asn1_traits.proofs.Outcomes.{refused_too}

-- an element whose header gives its content's length
pub definite_any : (a : Any) → length_of a.header ≡ Definite (length a.content.now) → ber_any_of a ≡ definite_element (any_of a)
definite_any a tells = ap (λ (l : Length). record { head = record { class = class_number a.header.class; constructed = a.header.constructed; tag = a.header.tag.0; size = definite_size l }; content = a.content.now }) tells

pub element_read : {V : Type 0} (means : BerElement → V → Type 0) (octets rest : List ℕ) (a : Any) (v : V) → BeginsWithElement octets (any_of a) rest → length_of a.header ≡ Definite (length a.content.now) →
    means (ber_any_of a) v → ReadsElement means octets v rest
element_read means octets rest a v begins tells meant = record { element = any_of a; begins = begins; meant = subst (λ e. means e v) (definite_any a tells) meant }

pub none_in_element : {V : Type 0} (means : BerElement → V → Type 0) (octets rest : List ℕ) (a : Any) → BeginsWithElement octets (any_of a) rest → length_of a.header ≡ Definite (length a.content.now) →
    NoValue means (ber_any_of a) → NoneReads (ReadsElement means) octets
none_in_element means octets rest a begins tells none = λ v s r.
    let same = ap definite_element (der_once octets s rest r.element (any_of a) r.begins begins).0 ∙ sym (definite_any a tells) in
    none v (subst (λ e. means e v) same r.meant)

pub none_in_ber_element : {V : Type 0} (means : BerElement → V → Type 0) (octets : List ℕ) (e : BerElement) (rest : List ℕ) → BeginsWithBerElement (MAX_RECURSION - 1) octets e rest → NoValue means e → NoneReads (ReadsBerElement means) octets
none_in_ber_element means octets e rest begins none = λ v s r. none v (subst (λ f. means f v) (ber_once (MAX_RECURSION - 1) octets s rest r.element e r.begins begins).0 r.meant)

-- if octets of an element are missing, no value is read with fewer of them
pub lacks_element : {V : Type 0} (means : BerElement → V → Type 0) (octets : List ℕ) (given : Refusal Error) (n : Needed) → IsMissing HasElement octets given → given ≡ refusals.Incomplete n → Lacks (ReadsElement means) octets n
lacks_element means octets given needed.Unknown missing is = let P : Refusal Error → Type 0 = λ z. IsMissing HasElement octets z in absurd (subst P is missing)
lacks_element means octets given (needed.Size n) missing is =
    let P : Refusal Error → Type 0 = λ z. IsMissing HasElement octets z in
    let told = subst P is missing in
    (told.0, λ more short v rest r. told.1 more short (r.element, rest, r.begins))

pub lacks_ber_element : {V : Type 0} (means : BerElement → V → Type 0) (octets : List ℕ) (given : Refusal Error) (n : Needed) → IsMissing (HasBerElement (MAX_RECURSION - 1)) octets given → given ≡ refusals.Incomplete n → Lacks (ReadsBerElement means) octets n
lacks_ber_element means octets given needed.Unknown missing is = let P : Refusal Error → Type 0 = λ z. IsMissing (HasBerElement (MAX_RECURSION - 1)) octets z in absurd (subst P is missing)
lacks_ber_element means octets given (needed.Size n) missing is =
    let P : Refusal Error → Type 0 = λ z. IsMissing (HasBerElement (MAX_RECURSION - 1)) octets z in
    let told = subst P is missing in
    (told.0, λ more short v rest r. told.1 more short (r.element, rest, r.begins))

-- what a reading refused isn't what it returns
pub not_refused : {A E : Type 0} (r : Result A E) (x : A) (e : E) → r ≡ Ok x → r ≡ Err e → ⊥
not_refused r x e p q = cc

pub one_refusal : {A E : Type 0} (r : Result A E) (d e : E) → r ≡ Err d → r ≡ Err e → d ≡ e
one_refusal r d e p q = cc

-- a reading by the wider rules, if the constraints are met
pub reads_allowed : {V E : Type 0} (gives : Error → E → Type 0) (grows : Type 0) (means : BerElement → V → Type 0) (allows : Element → Type 0) (e : BerElement) (r : Result V (Refusal E)) → allows (element_of_ber e) → ReadsOf gives grows means e r → ReadsOf gives grows (AndAllowed means allows) e r
reads_allowed gives grows means allows e (Ok v) a h = (h, a)
reads_allowed gives grows means allows e (Err x) a h = refused_too gives grows x (NoValue means e) (NoValue (AndAllowed means allows) e) h (λ none v m. none v m.0)
