-- The text of a purpose.
use Rattle.std.proofs.Common.{◌≡◌, ◌≢◌, ◌∙◌, sym, refl, ℕ, Bool, true, false, if◌then◌else◌, List, ap, inl, inr}
use Rattle.std.specs.Prelude.{bytes_eq}
use Rattle.std.proofs.lemmas.Slice.Eq.{bytes_eq-Decides}
use Rattle.asn1_oid.specs.Text.{oid_text}
use Rattle.purpose_names.specs.Names.{name_of, identifier_of}
use Rattle.purpose_names.specs.Showing.{IsShown}
use Rattle.purpose_names.specs.declared.naming.NamedPurpose.{NamedPurpose}
use Rattle.purpose_names.specs.declared.naming.NamedPurpose.TheVariants.{ServerAuth, ClientAuth, CodeSigning, EmailProtection, TimeStamping, OcspSigning}
use Rattle.certpath_why.specs.Uses.{purpose_text}

named_text : (p : NamedPurpose) → name_of p ≡ purpose_text (identifier_of p)
named_text ServerAuth = refl
named_text ClientAuth = refl
named_text CodeSigning = refl
named_text EmailProtection = refl
named_text TimeStamping = refl
named_text OcspSigning = refl

not_true : (b : Bool) → (b ≡ true → ⊥) → b ≡ false
not_true true n = absurd (n refl)
not_true false n = refl

chosen : (b : Bool) (x y : List ℕ) → b ≡ false → y ≡ (if b then x else y)
chosen true x y e = absurd (cc e)
chosen false x y e = refl

-- an identifier that is not this one goes on
passed : (id other x y : List ℕ) → id ≢ other → y ≡ (if bytes_eq id other then x else y)
passed id other x y n = chosen (bytes_eq id other) x y (not_true (bytes_eq id other) (λ e. n ((bytes_eq-Decides id other).0 e)))

other_text : (id : List ℕ) → ((p : NamedPurpose) → id ≢ identifier_of p) → oid_text id ≡ purpose_text id
other_text id none =
    passed id (identifier_of OcspSigning) (name_of OcspSigning) _ (none OcspSigning)
    ∙ passed id (identifier_of TimeStamping) (name_of TimeStamping) _ (none TimeStamping)
    ∙ passed id (identifier_of EmailProtection) (name_of EmailProtection) _ (none EmailProtection)
    ∙ passed id (identifier_of CodeSigning) (name_of CodeSigning) _ (none CodeSigning)
    ∙ passed id (identifier_of ClientAuth) (name_of ClientAuth) _ (none ClientAuth)
    ∙ passed id (identifier_of ServerAuth) (name_of ServerAuth) _ (none ServerAuth)

-- what is shown of a purpose is its text
pub shown_text : (id shown : List ℕ) → IsShown id shown → shown ≡ purpose_text id
shown_text id shown h = elim h [
  | inl k ↦ k.2 ∙ named_text k.0 ∙ ap purpose_text (sym k.1)
  | inr k ↦ k.1 ∙ other_text id k.0
]
