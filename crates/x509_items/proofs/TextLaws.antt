-- The text of a content is read exactly if it is UTF-8.
use Rattle.std.proofs.Common.{◌≡◌, refl, ℕ, List, Bool, true, false, Ok, Err, inl, inr, if◌then◌else◌}
use Rattle.std.specs.Str.{IsUtf8, is_utf8}
use Rattle.std.proofs.lemmas.Str.{IsUtf8-from_is_utf8, is_utf8-from_IsUtf8}
use Rattle.asn1_core.proofs.Cases.{chosen}
use Rattle.x509_core.specs.Answers.{Answer, unnamed}
use Rattle.x509_items.specs.Reading.{text_in}

pub text_found : (c t : List ℕ) → text_in c ≡ Ok t → IsUtf8 c × (c ≡ t)
text_found c t given =
    elim (chosen (is_utf8 c) _ _ _ given) [
      | inl is ↦ (IsUtf8-from_is_utf8 c is.0, let same : c ≡ t = cc in same)
      | inr other ↦ let impossible = other.1 in cc
    ]

pub text_only : (c : List ℕ) → IsUtf8 c → text_in c ≡ Ok c
text_only c is = rw (is_utf8-from_IsUtf8 c is) refl

text_case : (b : Bool) (c : List ℕ) → (b ≡ true → ⊥) → (let x : Answer (List ℕ) = if b then Ok c else Err unnamed in x ≡ Err unnamed)
text_case true c other = absurd (other refl)
text_case false c other = refl

pub text_refused : (c : List ℕ) → (IsUtf8 c → ⊥) → text_in c ≡ Err unnamed
text_refused c other = text_case (is_utf8 c) c (λ is. other (IsUtf8-from_is_utf8 c is))
