-- By which name versions by themselves and extensions are refused.
use Rattle.std.proofs.Common.{◌≡◌, ◌≢◌, ◌∙◌, ◌⊎◌, inl, inr, refl, sym, ap, subst, ℕ, ◌==◌, List, [], ◌∷◌, Ok, Err}
use Rattle.std.specs.Int.Digits.{AllBelowBase}
use Rattle.asn1_core.proofs.Cases.{chosen}
use Rattle.asn1_core.specs.Elements.{Element}
use Rattle.asn1_core.specs.Strict.{Head}
use Rattle.x509_core.specs.Answers.{Answer, named, plain, naming, ◌>>=◌}
use Rattle.x509_core.specs.Grammar.{NoneBegins, Header, Holds}
use Rattle.x509_core.specs.Reading.{front_header_at, content_in, next, many_of}
use Rattle.x509_core.specs.declared.error.X509Error.{X509Error}
use Rattle.x509_core.specs.declared.error.X509Error.TheVariants as errors
use Rattle.x509_core.proofs.Grammars.{IsReading, next_reading, was_named}
use Rattle.x509_core.proofs.LeafLaws.{tags_differ, differ_tags}
use Rattle.x509_items.proofs.HeaderLaws.{front_header_found, front_header_only}
use Rattle.x509_ext.specs.Extensions.{ExtensionParts, X509Extension}
use Rattle.x509_ext.specs.Fields.{Extension, ValueMeaning, ValueReading}
use Rattle.x509_ext.specs.Parts.{IsVersion, X509Version}
use Rattle.x509_ext.specs.Reading.{extension_in, extension_at, named_extension_at, to_end, extension_list_in, extension_list_at, wrapped_at, extensions_at, version_in, version_at}
use Rattle.x509_ext.proofs.ExtensionLaws.{IsValueLaw, extension_meaning}
use Rattle.x509_ext.proofs.PartLaws.{version_meaning}
use Rattle.laws_x509.specs.Refused.{NoWrapper}
use Rattle.laws_x509.specs.PartRefusals.{VersionRefused, ExtensionRefused, ExtensionsRefused}
use Rattle.laws_x509.proofs.Steps.{which_step, told_by, name_is, content_silent, told_none, none_told, element_step}

-- ---- versions

pub versions : IsReading X509Version (next (λ q. plain (version_in q.element)))
versions = next_reading IsVersion (λ q. plain (version_in q.element)) version_meaning

pub version_found : (e : X509Error) (i : List ℕ) → AllBelowBase 256 i → version_at i ≡ Err (named e) → VersionRefused e i
version_found e i below given =
    let is = told_none X509Version (next (λ q. plain (version_in q.element))) versions errors.InvalidVersion i e below given in
    subst (λ z. VersionRefused z i) (sym is.0) is.1

pub version_only : (e : X509Error) (i : List ℕ) → AllBelowBase 256 i → VersionRefused e i → version_at i ≡ Err (named e)
version_only errors.InvalidVersion i below is = none_told X509Version (next (λ q. plain (version_in q.element))) versions errors.InvalidVersion i below is
version_only e i below is = absurd is

-- ---- an extension by itself

extensions_read : (Means : ValueMeaning) (parse : ValueReading) → IsValueLaw Means parse → IsReading (X509Extension Means) (extension_at parse)
extensions_read Means parse law = next_reading (Holds 16 (ExtensionParts Means)) (λ q. extension_in parse q.element) (extension_meaning Means parse law)

pub extension_found : (Means : ValueMeaning) (parse : ValueReading) → IsValueLaw Means parse → (e : X509Error) (i : List ℕ) → AllBelowBase 256 i → named_extension_at parse i ≡ Err (named e) → ExtensionRefused Means e i
extension_found Means parse law e i below given =
    let is = told_none (X509Extension Means) (extension_at parse) (extensions_read Means parse law) errors.InvalidExtensions i e below given in
    subst (λ z. ExtensionRefused Means z i) (sym is.0) is.1

pub extension_only : (Means : ValueMeaning) (parse : ValueReading) → IsValueLaw Means parse → (e : X509Error) (i : List ℕ) → AllBelowBase 256 i → ExtensionRefused Means e i → named_extension_at parse i ≡ Err (named e)
extension_only Means parse law errors.InvalidExtensions i below is = none_told (X509Extension Means) (extension_at parse) (extensions_read Means parse law) errors.InvalidExtensions i below is
extension_only Means parse law e i below is = absurd is

-- ---- extensions in their wrapper

to_end_silent : {A : Type 0} (m : A × List ℕ) (e : X509Error) → to_end m ≡ Err (named e) → ⊥
to_end_silent (v, []) e given = cc
to_end_silent (v, x ∷ s) e given = cc

list_content_silent : (parse : ValueReading) (f : Element) (e : X509Error) → extension_list_in parse f ≡ Err (named e) → ⊥
unfolding extension_list_in
list_content_silent parse f e given =
    elim (which_step (content_in 16 f) _ e given) [
      | inl here ↦ content_silent 16 f e here
      | inr step ↦ to_end_silent (many_of (extension_at parse) step.0) e step.2
    ]

list_silent : (parse : ValueReading) (i : List ℕ) (e : X509Error) → AllBelowBase 256 i → extension_list_at parse i ≡ Err (named e) → ⊥
unfolding extension_list_at
list_silent parse i e below given =
    elim (which_step (next (λ p. extension_list_in parse p.element) i) _ e given) [
      | inl here ↦ let opened = element_step (λ p. extension_list_in parse p.element) i e below here in list_content_silent parse opened.piece.element e opened.refused
      | inr step ↦ to_end_silent step.0 e step.2
    ]

-- a header that was read is the only one
one_tag : (i : List ℕ) (h : Head × List ℕ) (k : Head) (r : List ℕ) → front_header_at i ≡ Ok h → Header i k r → k.tag ≡ h.0.tag
one_tag i h k r read header =
    let there = front_header_only i k r header in
    let both : ◌≡◌ {A = Head × List ℕ} (k, r) h = cc in
    ap (λ (z : Head × List ℕ). z.0.tag) both

pub wrapper_told : (parse : ValueReading) (n : ℕ) (i : List ℕ) (e : X509Error) → AllBelowBase 256 i → extensions_at parse n i ≡ Err (named e) → (e ≡ errors.InvalidExtensions) × NoWrapper n i
wrapper_told parse n [] e below given = cc
wrapper_told parse n (x ∷ s) e below given =
    elim (which_step (naming errors.InvalidExtensions (front_header_at (x ∷ s))) _ e given) [
      | inl here ↦
          let told = told_by errors.InvalidExtensions (front_header_at (x ∷ s)) (named e) here in (
            name_is e errors.InvalidExtensions told.0,
            record {
              some = λ empty. cc empty;
              none = λ head after header same. let there = front_header_only (x ∷ s) head after header in let refused = told.1.1 in cc;
            },
          )
      | inr step ↦
          let read = was_named errors.InvalidExtensions (front_header_at (x ∷ s)) step.0 step.1 in
          elim (chosen (step.0.0.tag == n) _ _ _ step.2) [
            | inl same ↦
                let after = (front_header_found (x ∷ s) step.0.0 step.0.1 below read).1 in
                absurd (list_silent parse step.0.1 e after same.1)
            | inr other ↦
                let wrong = other.1 in
                let name : named e ≡ named errors.InvalidExtensions = cc in (
                  name_is e errors.InvalidExtensions name,
                  record {
                    some = λ empty. cc empty;
                    none = λ head after header same. tags_differ step.0.0.tag n other.0 (sym (one_tag (x ∷ s) step.0 head after read header) ∙ same);
                  },
                )
          ]
    ]

header_by : (parse : ValueReading) (n x : ℕ) (s : List ℕ) (o : Answer (Head × List ℕ)) → AllBelowBase 256 (x ∷ s) → front_header_at (x ∷ s) ≡ o → NoWrapper n (x ∷ s)
    → naming errors.InvalidExtensions o >>= wrapped_at parse n ≡ Err (named errors.InvalidExtensions)
header_by parse n x s (Err w) below read is = refl
header_by parse n x s (Ok h) below read is =
    let header = front_header_found (x ∷ s) h.0 h.1 below read in
    rw (differ_tags h.0.tag n (is.none h.0 h.1 header.0)) refl

pub no_wrapper : (parse : ValueReading) (n : ℕ) (i : List ℕ) → AllBelowBase 256 i → NoWrapper n i → extensions_at parse n i ≡ Err (named errors.InvalidExtensions)
no_wrapper parse n [] below is = absurd (is.some refl)
no_wrapper parse n (x ∷ s) below is = header_by parse n x s (front_header_at (x ∷ s)) below refl is

pub extensions_told : (parse : ValueReading) (n : ℕ) (e : X509Error) (i : List ℕ) → AllBelowBase 256 i → extensions_at parse n i ≡ Err (named e) → ExtensionsRefused n e i
extensions_told parse n e i below given = let is = wrapper_told parse n i e below given in subst (λ z. ExtensionsRefused n z i) (sym is.0) is.1

pub extensions_refused : (parse : ValueReading) (n : ℕ) (e : X509Error) (i : List ℕ) → AllBelowBase 256 i → ExtensionsRefused n e i → extensions_at parse n i ≡ Err (named e)
extensions_refused parse n errors.InvalidExtensions i below is = no_wrapper parse n i below is
extensions_refused parse n e i below is = absurd is
